-- Documents that are judged in turn.
use Rattle.asg_commands.proofs.Common.{◌≡◌, ℕ, ◌+◌, ◌<◌, ◌≤◌, List, [], ◌∷◌, length, get_or, drop, ℤ, Some, None, Option, sym, refl, ap, ◌∙◌, subst, inl, inr, arith, drop_all, Answers, IsReply, bytes_of, no_text, yes_text, Reply, Status, Done, No, JudgesOn, IsFirstReason, Form, most_side, Problem, PassesNegative, square_side, Objective, DueToJudge, line_at_passes, rest_at, after_line, first_refused, line_refusal, solved_instances, solve_count, solves, Line}
use Rattle.asg_model.specs.Edits.{edited}
use Rattle.asg_doc.specs.declared.documents.Document.{Document}
use Rattle.asg_check.specs.DocumentForm.{MayBeAsked}
use Rattle.asg_check.specs.Certifies.{Certifies}
use Rattle.asg_check.specs.TrueClaim.{ClaimsTruly}
use Rattle.asg_text.specs.declared.script_lines.Line.TheVariants.{Edit, Solve}
use Rattle.asg_model.specs.declared.edits.Edit.{Edit as Edits}
use Rattle.asg_model.specs.declared.edits.Edit.TheVariants.{Cost as SetCost, Forbid, DropRow, DropColumn}
use Rattle.asg_check.specs.declared.document_forms.Form.TheVariants as forms

module _ (objective : Objective) (form : Form) (count : ℕ) (X : Problem) (instances : List Problem) (documents : List Document) (document : Document) (within : count < length documents) (is : document ≡ get_or documents count document) where
  next_is : drop count documents ≡ document ∷ drop (count + 1) documents
  next_is = rest_at documents count document within ∙ ap (λ d. d ∷ drop (count + 1) documents) (sym is)

  -- the next document certifies
  pub judges_certified : Certifies objective X form document → ClaimsTruly objective X document → JudgesOn objective form count (X ∷ instances) documents (count + 1) instances None
  judges_certified certifies truly = λ status text due. subst (λ ds. DueToJudge objective form count (X ∷ instances) ds status text) (sym next_is) (inl (certifies, truly, due))

  -- or is denied
  pub judges_denied : (number : ℕ) (place : ℤ) (reply : Reply) → ¬ Certifies objective X form document → IsFirstReason objective X form document number place → IsReply reply No (no_text (count + 1) number place)
      → JudgesOn objective form count (X ∷ instances) documents (count + 1) instances (Some reply)
  judges_denied number place reply fails first says =
      subst (λ ds. DueToJudge objective form count (X ∷ instances) ds reply.status (bytes_of reply.text)) (sym next_is)
      (inr (record { fails = fails; number = number; place = place; reason = first; ended = sym says.0; told = sym says.1 }))

-- a line keeps the place rule, so what may be asked may be asked after it
place_kept : (X : Problem) (line : Line) → (after_line X line).place ≡ X.place
place_kept X Solve = refl
place_kept X (Edit (SetCost row col cost)) = refl
place_kept X (Edit (Forbid row col)) = refl
place_kept X (Edit (DropRow row)) = refl
place_kept X (Edit (DropColumn col)) = refl

asked_after : (form : Form) (objective : Objective) (X : Problem) (line : Line) → MayBeAsked form objective X → MayBeAsked form objective (after_line X line)
asked_after forms.Solve objective X line asked = tt
asked_after (forms.Rank count) objective X line asked = (asked.0, place_kept X line ∙ asked.1)
asked_after forms.Edit objective X line asked = tt

-- lines that are followed, behind so many documents that certify
pub record IsJudging (objective : Objective) (form : Form) (X : Problem) (lines : List (ℕ × Line)) (documents : List Document) (place count : ℕ) (now : Problem) : Type 0 where
  pub so_far : (status : Status) (text : List ℕ) → DueToJudge objective form count (solved_instances now (drop place lines)) (drop count documents) status text → DueToJudge objective form 0 (solved_instances X lines) documents status text
  pub left : length documents ≡ count + solve_count (drop place lines)
  pub tried : first_refused objective now (drop place lines) ≡ None
  pub side : square_side now ≤ most_side
  pub passes : PassesNegative objective now
  pub asked : MayBeAsked form objective now

pub IsJudging-first : (objective : Objective) (form : Form) (X : Problem) (lines : List (ℕ × Line)) (documents : List Document) → length documents ≡ solve_count lines → first_refused objective X lines ≡ None → square_side X ≤ most_side → PassesNegative objective X
    → MayBeAsked form objective X → IsJudging objective form X lines documents 0 0 X
IsJudging-first objective form X lines documents counted tried side passes asked =
    let nothing_before : solve_count lines ≡ 0 + solve_count lines = omega arith in
    record { so_far = λ status text due. due; left = counted ∙ nothing_before; tried = tried; side = side; passes = passes; asked = asked }

module _ (objective : Objective) (form : Form) (X : Problem) (lines : List (ℕ × Line)) (documents : List Document) (place count : ℕ) (now : Problem) (d : ℕ × Line) (within : place < length lines)
    (judging : IsJudging objective form X lines documents place count now) where
  abbrev next : ℕ × Line
  next = get_or lines place d

  rest_is : drop place lines ≡ next ∷ drop (place + 1) lines
  rest_is = rest_at lines place d within

  passing : (line_refusal objective now next.1 ≡ None) × (first_refused objective (after_line now next.1) (drop (place + 1) lines) ≡ None)
  passing = line_at_passes objective now lines place d within judging.tried

  pub line_tried : line_refusal objective now (get_or lines place d).1 ≡ None
  line_tried = passing.0

  pub line_within : count + solves (get_or lines place d).1 ≤ length documents
  line_within = let left = judging.left in let more = ap solve_count rest_is in omega (arith, left, more)

  -- a document was denied
  pub judged_denied : (after : Problem) (found : Option Reply) (reply : Reply)
      → ((number : ℕ) (rest : List (ℕ × Line)) → JudgesOn objective form count (solved_instances now ((number, (get_or lines place d).1) ∷ rest)) documents (count + solves (get_or lines place d).1) (solved_instances after rest) found) → found ≡ Some reply
      → Answers (DueToJudge objective form 0 (solved_instances X lines) documents) reply
  judged_denied after found reply judged is =
      let denied = subst (JudgesOn objective form count (solved_instances now (next ∷ drop (place + 1) lines)) documents (count + solves next.1) (solved_instances after (drop (place + 1) lines))) is (judged next.0 (drop (place + 1) lines)) in
      judging.so_far reply.status (bytes_of reply.text) (subst (λ ls. DueToJudge objective form count (solved_instances now ls) (drop count documents) reply.status (bytes_of reply.text)) (sym rest_is) denied)

  -- or none was
  pub IsJudging-more : (after : Problem) (more : ℕ) (found : Option Reply) → more ≡ count + solves (get_or lines place d).1 → after ≡ after_line now (get_or lines place d).1 → square_side after ≤ most_side → PassesNegative objective after
      → ((number : ℕ) (rest : List (ℕ × Line)) → JudgesOn objective form count (solved_instances now ((number, (get_or lines place d).1) ∷ rest)) documents (count + solves (get_or lines place d).1) (solved_instances after rest) found) → found ≡ None
      → IsJudging objective form X lines documents (place + 1) more after
  IsJudging-more after more found counts follows side passes judged is =
      let goes = subst (JudgesOn objective form count (solved_instances now (next ∷ drop (place + 1) lines)) documents (count + solves next.1) (solved_instances after (drop (place + 1) lines))) is (judged next.0 (drop (place + 1) lines)) in
      record {
        so_far = λ status text due.
            let due' = subst (λ n. DueToJudge objective form n (solved_instances after (drop (place + 1) lines)) (drop n documents) status text) counts due in
            judging.so_far status text (subst (λ ls. DueToJudge objective form count (solved_instances now ls) (drop count documents) status text) (sym rest_is) (goes status text due'));
        left = let left = judging.left in let last = ap solve_count rest_is in omega (arith, left, last, counts);
        tried = subst (λ Z. first_refused objective Z (drop (place + 1) lines) ≡ None) (sym follows) passing.1;
        side = side;
        passes = passes;
        asked = subst (MayBeAsked form objective) (sym follows) (asked_after form objective now (get_or lines place d).1 judging.asked);
      }

-- all lines were followed
pub judged_all : (objective : Objective) (form : Form) (X : Problem) (lines : List (ℕ × Line)) (documents : List Document) (place count : ℕ) (now : Problem) (reply : Reply) → length lines ≤ place → IsJudging objective form X lines documents place count now
    → IsReply reply Done (yes_text count) → Answers (DueToJudge objective form 0 (solved_instances X lines) documents) reply
judged_all objective form X lines documents place count now reply past judging says =
    let none : drop place lines ≡ [] = drop_all place lines past in
    let left = judging.left in
    let counted = ap solve_count none in
    let end : drop count documents ≡ [] = drop_all count documents (omega (arith, left, counted)) in
    judging.so_far reply.status (bytes_of reply.text)
    (subst (λ ls. DueToJudge objective form count (solved_instances now ls) (drop count documents) reply.status (bytes_of reply.text)) (sym none)
    (subst (λ ds. DueToJudge objective form count [] ds reply.status (bytes_of reply.text)) (sym end) (sym says.0, sym says.1)))

-- an edit leaves the judging to the lines after it
pub judges_edit : (objective : Objective) (form : Form) (count : ℕ) (X new : Problem) (edit : Edits) (documents : List Document) → new ≡ edited X edit → (number : ℕ) (lines : List (ℕ × Line))
    → JudgesOn objective form count (solved_instances X ((number, Edit edit) ∷ lines)) documents (count + solves (Edit edit)) (solved_instances new lines) None
judges_edit objective form count X new edit documents is number lines = λ status text due.
    let same : count + solves (Edit edit) ≡ count = omega arith in
    let due' = subst (λ Z. DueToJudge objective form (count + solves (Edit edit)) (solved_instances Z lines) (drop (count + solves (Edit edit)) documents) status text) is due in
    subst (λ n. DueToJudge objective form n (solved_instances (edited X edit) lines) (drop n documents) status text) same due'
