-- What each due status says of a request to edit.
use Rattle.asg_promises.proofs.Common.{◌≡◌, ℕ, ◌+◌, ◌≤◌, false, ◌⊎◌, List, [], ◌∷◌, length, IfSome, Some, None, Option, sym, refl, ap, ◌∙◌, subst, inl, inr, arith, All-cons, All-head, All-nil, All-tail, TellsScript, refused_script_text, yes_text, Status, Done, Instance, Script, TooLong, HasText, AllHaveText, texts_of, Document, longest_file, Problem, Objective, DueForJob, DueForTask, Long, Refused, Held, DueToCheck, NotRead, Miscounted, Read, DueToEdit, Followed, DueToJudge, Holds, held_by, instance_in, AreCertified, AreTrue, AskAlike, IsEdited, IsToldOfScript, files_of, DueForScript, AreShort, MayHold, MayHoldAll, content_at, files_of_task, Job, Work, Edit, Check, ScriptFile, HoldsLines, RefusesLines, script_in, solved_instances, reading_of, Line}
use Rattle.asg_model.specs.Edits.{edited}
use Rattle.asg_proof.specs.KeptWords.{Standing}
use Rattle.asg_answers.specs.EditDocuments.{AreEditDocuments, at_first, edited_standing, standing_of}
use Rattle.asg_promises.proofs.StageLaws.{AllShort, edit_ends, first_held, reached, script_ends}
use Rattle.asg_promises.proofs.ToldFiles.{held}
use Rattle.asg_check.specs.declared.document_forms.Form.TheVariants.{Edit as EditForm}
use Rattle.asg_text.specs.declared.script_lines.Line.TheVariants.{Edit as Edits_line, Solve}

-- what is due by the command itself
own : (job : Job) (contents : List (List ℕ)) (X : Problem) (status : Status) (text script : List ℕ) → job.task ≡ Edit script → DueForTask job.task job contents X status text
    → DueForScript (script_in job.objective X (content_at contents 1)) (DueToEdit job X) status text
own job contents X status text script is due = subst (λ task. DueForTask task job contents X status text) is due

-- the contents of the script's file
script_held : (told : List ℕ → Option (List ℕ)) (job : Job) (contents : List (List ℕ)) (script : List ℕ) → job.task ≡ Edit script → MayHoldAll told (files_of (Some (Work job))) contents → MayHold told script (content_at contents 1)
script_held told job contents script is may = second contents (subst (λ task. MayHoldAll told (job.instance ∷ files_of_task task) contents) is may)
  where
    second : (cs : List (List ℕ)) → MayHoldAll told (job.instance ∷ script ∷ []) cs → MayHold told script (content_at cs 1)
    second [] m = absurd m
    second (bytes ∷ []) m = absurd m.1
    second (bytes ∷ says ∷ more) m = m.1.0

-- a request to edit ends with the status 0, 3, 4 or 10
abbrev IsEnding : Status → Type 0
IsEnding status = (status ≡ Done) ⊎ ((status ≡ Instance) ⊎ ((status ≡ Script) ⊎ (status ≡ TooLong)))

pub edit_statuses : (job : Job) (contents : List (List ℕ)) (status : Status) (text script : List ℕ) → job.task ≡ Edit script → DueForJob job contents status text → (status ≡ Done) ⊎ ((status ≡ Instance) ⊎ ((status ≡ Script) ⊎ (status ≡ TooLong)))
edit_statuses job contents status text script is (Long place within long e told) = inr (inr (inr e))
edit_statuses job contents status text script is (Refused short numbers none e told) = inr (inl e)
edit_statuses job contents status text script is (Held short X holds due) =
    script_ends IsEnding (inr (inr (inl refl))) (script_in job.objective X (content_at contents 1)) (DueToEdit job X) status text (λ lines. edit_ends IsEnding (inl refl) job X lines status text) (own job contents X status text script is due)

-- what is due for the script that is told
reached_script : (job : Job) (told : List ℕ → Option (List ℕ)) (contents : List (List ℕ)) (status : Status) (text script bytes says : List ℕ) (X : Problem) → AllShort told (Some (Work job)) → job.task ≡ Edit script → told job.instance ≡ Some bytes → told script ≡ Some says
    → instance_in job bytes ≡ Holds X → MayHoldAll told (files_of (Some (Work job))) contents → DueForJob job contents status text → DueForScript (script_in job.objective X says) (DueToEdit job X) status text
reached_script job told contents status text script bytes says X shorts is found heard holds may due =
    let same : content_at contents 1 ≡ says = held (told script) (content_at contents 1) says heard (script_held told job contents script is may) in
    subst (λ spoken. DueForScript (script_in job.objective X spoken) (DueToEdit job X) status text) same
    (own job contents X status text script is (reached job told contents status text bytes X shorts found holds may due))

pub edit_refused : (job : Job) (told : List ℕ → Option (List ℕ)) (contents : List (List ℕ)) (status : Status) (text script bytes says numbers : List ℕ) (X : Problem) → AllShort told (Some (Work job)) → job.task ≡ Edit script → told job.instance ≡ Some bytes → told script ≡ Some says
    → instance_in job bytes ≡ Holds X → script_in job.objective X says ≡ RefusesLines numbers → MayHoldAll told (files_of (Some (Work job))) contents → DueForJob job contents status text → (status ≡ Script) × (text ≡ refused_script_text numbers)
edit_refused job told contents status text script bytes says numbers X shorts is found heard holds refuses may due =
    subst (λ file. DueForScript file (DueToEdit job X) status text) refuses (reached_script job told contents status text script bytes says X shorts is found heard holds may due)

pub edit_followed : (job : Job) (told : List ℕ → Option (List ℕ)) (contents : List (List ℕ)) (status : Status) (text script bytes says : List ℕ) (X : Problem) (lines : List (ℕ × Line)) → AllShort told (Some (Work job)) → job.task ≡ Edit script → told job.instance ≡ Some bytes → told script ≡ Some says
    → instance_in job bytes ≡ Holds X → script_in job.objective X says ≡ HoldsLines lines → MayHoldAll told (files_of (Some (Work job))) contents → DueForJob job contents status text → status ≡ Done
edit_followed job told contents status text script bytes says X lines shorts is found heard holds follows may due =
    edit_ends (λ s. s ≡ Done) refl job X lines status text (subst (λ file. DueForScript file (DueToEdit job X) status text) follows (reached_script job told contents status text script bytes says X shorts is found heard holds may due))

-- each document is that of its instance, with a true claim
pub AreTrue-edited : (objective : Objective) (X : Problem) (standing : Standing) (lines : List (ℕ × Line)) (documents : List Document) → AreEditDocuments objective X standing lines documents → AreTrue objective (solved_instances X lines) documents
AreTrue-edited objective X standing [] [] are = tt
AreTrue-edited objective X standing [] (document ∷ documents) are = absurd are
AreTrue-edited objective X standing ((number, Edits_line edit) ∷ lines) documents (left, keeps, are) =
    AreTrue-edited objective (edited X edit) (edited_standing standing X (edited X edit) left) lines documents are
AreTrue-edited objective X standing ((number, Solve) ∷ lines) [] are = absurd are
AreTrue-edited objective X standing ((number, Solve) ∷ lines) (document ∷ documents) (written, goes, are) =
    (written.has_text, written.certifies, written.truly, AreTrue-edited objective X (standing_of document) lines documents are)

-- what is due with status 0
followed_by : (job : Job) (bytes says text : List ℕ) (X : Problem) (file : ScriptFile) → instance_in job bytes ≡ Holds X → script_in job.objective X says ≡ file → DueForScript file (DueToEdit job X) Done text → IsToldOfScript job bytes says text
followed_by job bytes says text X (RefusesLines numbers) holds is due = let e = due.0 in cc
followed_by job bytes says text X (HoldsLines lines) holds is (Followed told e) = record { problem = X; lines = lines; held = holds; followed = is; tells = told }

pub followed_told : (job : Job) (told : List ℕ → Option (List ℕ)) (contents : List (List ℕ)) (text script : List ℕ) → job.task ≡ Edit script → MayHoldAll told (files_of (Some (Work job))) contents → DueForJob job contents Done text
    → MayHold told job.instance (content_at contents 0) × MayHold told script (content_at contents 1) × IsToldOfScript job (content_at contents 0) (content_at contents 1) text × AreShort contents
followed_told job told contents text script is may due = by_case due
  where
    by_case : DueForJob job contents Done text → MayHold told job.instance (content_at contents 0) × MayHold told script (content_at contents 1) × IsToldOfScript job (content_at contents 0) (content_at contents 1) text × AreShort contents
    by_case (Long place within long e told') = cc
    by_case (Refused short numbers none e told') = cc
    by_case (Held short X holds owed) =
        (first_held told job contents may, script_held told job contents script is may, followed_by job (content_at contents 0) (content_at contents 1) text X (script_in job.objective X (content_at contents 1)) holds refl (own job contents X Done text script is owed), short)

-- the documents
pub edited_only : (job : Job) → job.brief ≡ false → (told : List ℕ → Option (List ℕ)) (contents : List (List ℕ)) (text script : List ℕ) → job.task ≡ Edit script → MayHoldAll told (files_of (Some (Work job))) contents → DueForJob job contents Done text
    → MayHold told job.instance (content_at contents 0) × MayHold told script (content_at contents 1) × IsEdited job (content_at contents 0) (content_at contents 1) text × AreShort contents
edited_only job whole told contents text script is may due =
    let found = followed_told job told contents text script is may due in
    let did = found.2 in
    let tells = subst (λ brief. TellsScript brief job.objective did.problem did.lines text) whole did.tells in (
      found.0,
      found.1,
      record {
        problem = did.problem;
        lines = did.lines;
        documents = tells.0;
        held = did.held;
        followed = did.followed;
        are_true = AreTrue-edited job.objective did.problem at_first did.lines tells.0 tells.1;
        going_on = tells.1;
        written = tells.2;
      },
      found.3,
    )

-- ---- what was written is accepted

have_text : (objective : Objective) (instances : List Problem) (documents : List Document) → AreTrue objective instances documents → AllHaveText documents
have_text objective [] [] are = All-nil HasText
have_text objective [] (document ∷ documents) are = absurd are
have_text objective (X ∷ instances) [] are = absurd are
have_text objective (X ∷ instances) (document ∷ documents) (text, certifies, truly, are) = All-cons HasText document documents text (have_text objective instances documents are)

as_many : (objective : Objective) (instances : List Problem) (documents : List Document) → AreTrue objective instances documents → length documents ≡ length instances
as_many objective [] [] are = refl
as_many objective [] (document ∷ documents) are = absurd are
as_many objective (X ∷ instances) [] are = absurd are
as_many objective (X ∷ instances) (document ∷ documents) (text, certifies, truly, are) = let rest = as_many objective instances documents are in omega (arith, rest)

judged_true : (objective : Objective) (count total : ℕ) (instances : List Problem) (documents : List Document) → total ≡ count + length documents → AreTrue objective instances documents → DueToJudge objective EditForm count instances documents Done (yes_text total)
judged_true objective count total [] [] is are = (refl, ap yes_text (omega (arith, is)))
judged_true objective count total [] (document ∷ documents) is are = absurd are
judged_true objective count total (X ∷ instances) [] is are = absurd are
judged_true objective count total (X ∷ instances) (document ∷ documents) is (text, certifies, truly, are) = inl (certifies, truly, judged_true objective (count + 1) total instances documents (omega (arith, is)) are)

three_short : (bytes says text : List ℕ) → length bytes ≤ longest_file → length says ≤ longest_file → length text ≤ longest_file → AreShort (bytes ∷ says ∷ text ∷ [])
three_short bytes says text one two three =
    let P = λ (b : List ℕ). length b ≤ longest_file in
    All-cons P bytes (says ∷ text ∷ []) one (All-cons P says (text ∷ []) two (All-cons P text [] three (All-nil P)))

short_first : (contents : List (List ℕ)) → AreShort contents → length (content_at contents 0) ≤ longest_file
short_first [] short = omega arith
short_first (bytes ∷ contents) short = short 0 [] (omega arith)

short_second : (contents : List (List ℕ)) → AreShort contents → length (content_at contents 1) ≤ longest_file
short_second [] short = omega arith
short_second (bytes ∷ []) short = omega arith
short_second (bytes ∷ says ∷ contents) short = short 1 [] (omega arith)

pub accepted_documents : (told later : List ℕ → Option (List ℕ)) (edit check : Job) (text script says answer : List ℕ) (contents : List (List ℕ)) → edit.brief ≡ false → edit.task ≡ Edit script → MayHoldAll told (files_of (Some (Work edit))) contents → DueForJob edit contents Done text
    → check.task ≡ Check answer (Some says) None → AskAlike edit check → length text ≤ longest_file → later check.instance ≡ told edit.instance → later says ≡ told script → later answer ≡ Some text
    → (documents : List Document) × AllHaveText documents × (text ≡ texts_of documents) × (held : List (List ℕ)) × MayHoldAll later (files_of (Some (Work check))) held × DueForJob check held Done (yes_text (length documents))
accepted_documents told later edit check text script says answer contents whole is may due checks alike within same_file same_script written =
    let found = edited_only edit whole told contents text script is may due in
    let bytes = content_at contents 0 in
    let spoken = content_at contents 1 in
    let did = found.2 in
    let count = length did.documents in
    let may_again = subst (λ held. IfSome held (λ h. bytes ≡ h)) (sym same_file) found.0 in
    let may_follow = subst (λ held. IfSome held (λ h. spoken ≡ h)) (sym same_script) found.1 in
    let may_speak = subst (λ held. IfSome held (λ h. text ≡ h)) (sym written) refl in
    let holds : instance_in check bytes ≡ Holds did.problem = same_instance alike bytes ∙ did.held in
    let follows : script_in check.objective did.problem spoken ≡ HoldsLines did.lines = ap (λ o. script_in o did.problem spoken) alike.of_objective ∙ did.followed in
    let are = subst (λ o. AreTrue o (solved_instances did.problem did.lines) did.documents) (sym alike.of_objective) did.are_true in
    let texts = have_text check.objective (solved_instances did.problem did.lines) did.documents are in
    let owed : DueToCheck check.objective EditForm (solved_instances did.problem did.lines) text Done (yes_text count) =
    Read did.documents texts did.written (as_many check.objective (solved_instances did.problem did.lines) did.documents are)
    (judged_true check.objective 0 count (solved_instances did.problem did.lines) did.documents (omega arith) are) in
    let three = bytes ∷ spoken ∷ text ∷ [] in (
      did.documents,
      texts,
      did.written,
      three,
      subst (λ task. MayHoldAll later (check.instance ∷ files_of_task task) three) (sym checks) (may_again, (may_follow, (may_speak, tt))),
      Held (three_short bytes spoken text (short_first contents found.3) (short_second contents found.3) within) did.problem holds
          (subst (λ task. DueForTask task check three did.problem Done (yes_text count)) (sym checks)
          (subst (λ file. DueForScript file (λ lines. DueToCheck check.objective EditForm (solved_instances did.problem lines) text) Done (yes_text count)) (sym follows) owed)),
    )
  where
    same_instance : AskAlike edit check → (bytes : List ℕ) → instance_in check bytes ≡ instance_in edit bytes
    same_instance alike bytes = λ i. held_by (alike.of_objective i) (alike.of_place i) (alike.of_each i) (reading_of (alike.of_format i) bytes)

-- ---- documents that are judged

-- the contents of the script's and of the answer's files
pub judged_held : (told : List ℕ → Option (List ℕ)) (job : Job) (contents : List (List ℕ)) (script answer : List ℕ) → job.task ≡ Check answer (Some script) None → MayHoldAll told (files_of (Some (Work job))) contents
    → MayHold told script (content_at contents 1) × MayHold told answer (content_at contents 2)
judged_held told job contents script answer is may = both contents (subst (λ task. MayHoldAll told (job.instance ∷ files_of_task task) contents) is may)
  where
    both : (cs : List (List ℕ)) → MayHoldAll told (job.instance ∷ script ∷ answer ∷ []) cs → MayHold told script (content_at cs 1) × MayHold told answer (content_at cs 2)
    both [] m = absurd m
    both (bytes ∷ []) m = absurd m.1
    both (bytes ∷ says ∷ []) m = absurd m.1.1
    both (bytes ∷ says ∷ spoken ∷ more) m = (m.1.0, m.1.1.0)

-- documents that all certify
judged_all : (objective : Objective) (count : ℕ) (instances : List Problem) (documents : List Document) (text : List ℕ) → AllHaveText documents → DueToJudge objective EditForm count instances documents Done text
    → AreTrue objective instances documents × (text ≡ yes_text (count + length documents))
judged_all objective count [] [] text have_text due = (tt, due.1 ∙ ap yes_text (omega arith))
judged_all objective count [] (document ∷ documents) text have_text due = absurd due
judged_all objective count (X ∷ instances) [] text have_text due = absurd due
judged_all objective count (X ∷ instances) (document ∷ documents) text have_text (inl (certifies, truly, due)) =
    let rest = judged_all objective (count + 1) instances documents text (All-tail HasText document documents have_text) due in
    ((All-head HasText document documents have_text, certifies, truly, rest.0), rest.1 ∙ ap yes_text (omega arith))
judged_all objective count (X ∷ instances) (document ∷ documents) text have_text (inr denied) = let e = denied.ended in cc

-- what is due with status 0
record IsAccepted (job : Job) (bytes script answer text : List ℕ) : Type 0 where
  certified : AreCertified job bytes script answer
  told : text ≡ yes_text (length certified.documents)

accepted_read : (job : Job) (bytes says spoken text : List ℕ) (X : Problem) (lines : List (ℕ × Line)) → instance_in job bytes ≡ Holds X → script_in job.objective X says ≡ HoldsLines lines
    → DueToCheck job.objective EditForm (solved_instances X lines) spoken Done text → IsAccepted job bytes says spoken text
accepted_read job bytes says spoken text X lines holds is (NotRead line none at e told) = cc
accepted_read job bytes says spoken text X lines holds is (Miscounted documents have_text read other e told) = cc
accepted_read job bytes says spoken text X lines holds is (Read documents texts read same owed) =
    let all = judged_all job.objective 0 (solved_instances X lines) documents text texts owed in
    record {
      certified = record { problem = X; lines = lines; documents = documents; held = holds; followed = is; are_true = all.0; read = read };
      told = all.1 ∙ ap yes_text (omega arith);
    }

accepted_by : (job : Job) (bytes says spoken text : List ℕ) (X : Problem) (file : ScriptFile) → instance_in job bytes ≡ Holds X → script_in job.objective X says ≡ file
    → DueForScript file (λ lines. DueToCheck job.objective EditForm (solved_instances X lines) spoken) Done text → IsAccepted job bytes says spoken text
accepted_by job bytes says spoken text X (RefusesLines numbers) holds is due = let e = due.0 in cc
accepted_by job bytes says spoken text X (HoldsLines lines) holds is due = accepted_read job bytes says spoken text X lines holds is due

pub certified_only : (job : Job) (told : List ℕ → Option (List ℕ)) (contents : List (List ℕ)) (text script answer : List ℕ) → job.task ≡ Check answer (Some script) None → MayHoldAll told (files_of (Some (Work job))) contents → DueForJob job contents Done text
    → (bytes says spoken : List ℕ) × MayHold told job.instance bytes × MayHold told script says × MayHold told answer spoken × (certified : AreCertified job bytes says spoken) × (text ≡ yes_text (length certified.documents))
certified_only job told contents text script answer is may due = by_case due
  where
    bytes : List ℕ
    bytes = content_at contents 0

    says : List ℕ
    says = content_at contents 1

    spoken : List ℕ
    spoken = content_at contents 2

    by_case : DueForJob job contents Done text
        → (bytes says spoken : List ℕ) × MayHold told job.instance bytes × MayHold told script says × MayHold told answer spoken × (certified : AreCertified job bytes says spoken) × (text ≡ yes_text (length certified.documents))
    by_case (Long place within long e told') = cc
    by_case (Refused short numbers none e told') = cc
    by_case (Held short X holds owed) =
        let both = judged_held told job contents script answer is may in
        let did = accepted_by job bytes says spoken text X (script_in job.objective X says) holds refl (subst (λ task. DueForTask task job contents X Done text) is owed) in
        (bytes, says, spoken, first_held told job contents may, both.0, both.1, did.certified, did.told)
