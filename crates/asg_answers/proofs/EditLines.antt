-- What is written for a script, line by line.
use Rattle.asg_answers.proofs.Common.{◌≡◌, ℕ, ◌+◌, ◌<◌, ◌≤◌, Bool, true, false, List, [], ◌∷◌, ◌++◌, length, get_or, take, drop, Some, None, Option, sym, refl, ap, ◌∙◌, subst, append_assoc, append-nil, arith, take-append-drop, take_all, take_more, AreSure, ClaimsBy, GoesOnTo, IsEditDocument, IsFollowed, IsTold, KeepsStanding, Stands, TellsEdits, TellsScript, IsWritten, HaltsIn, WritesAll, WritesFront, WritesLine, WriteFault, NoMemory, AreBriefLines, IsBriefLine, text_of, Claim, Best, Nothing, Ranked, Document, EditorOf, Edits, GoesTo, Puts-append, PutsPrefix-append, Puts, PutsPrefix, edited, Problem, Objective, Word, PhaseOf, Below, Levels, Phases, Windows, after_line, solved_instances}
use Rattle.asg_model.specs.declared.edits.Edit.{Edit}
use Rattle.asg_proof.specs.KeptWords.{AddsFew, GoesOnFrom, IsRaisedFor, KeepsOn, KeepsPhases, Standing}
use Rattle.asg_text.specs.declared.script_lines.Line.{Line}
use Rattle.asg_answers.specs.declared.edited.Halt.{Halt}
use Rattle.asg_answers.specs.EditDocuments.{AreEditDocuments, ClaimGoesOn, at_first, claimed_phases, edited_standing, standing_of}
use Rattle.asg_text.specs.declared.script_lines.Line.TheVariants.{Edit as Edits_line, Solve}
use Rattle.asg_check.specs.declared.document_forms.Form.TheVariants as forms

-- ---- an edit

sure_edited : (objective : Objective) (edits : List (Problem × Problem)) (X Y : Problem) (n m : ℕ) → AreSure objective edits n → (IsRaisedFor objective X Y → n ≡ 0 → m ≤ 1) → AreSure objective (edits ++ (X, Y) ∷ []) m
sure_edited objective [] X Y n m sure few = λ raised. few raised sure
sure_edited objective (step ∷ []) X Y n m sure few = tt
sure_edited objective (step ∷ other ∷ rest) X Y n m sure few = tt

-- what an edit leaves of what was kept
record IsLeft (objective : Objective) (edits : List (Problem × Problem)) (kept : Option (List (PhaseOf Word))) (old new : EditorOf) : Type 0 where
  left : Option (List (PhaseOf Word))
  keeps : KeepsOn objective new.instance kept left
  stands : KeepsStanding objective (edits ++ (old.instance, new.instance) ∷ []) left new

IsLeft-edited : (objective : Objective) (old new : EditorOf) (edit : Edit) → old.objective ≡ objective → Edits old edit new → (edits : List (Problem × Problem)) (kept : Option (List (PhaseOf Word))) → KeepsStanding objective edits kept old → IsLeft objective edits kept old new
IsLeft-edited objective old new edit same did edits None stands = record { left = None; keeps = refl; stands = tt }
IsLeft-edited objective old new edit same did edits (Some words) stands =
    let keeps : KeepsPhases objective new.instance words new.phases = subst (λ ps. KeepsPhases objective new.instance ps new.phases) stands.0 (subst (λ o. KeepsPhases o new.instance old.phases new.phases) same did.kept) in
    record {
      left = Some new.phases;
      keeps = (new.phases, keeps, refl);
      stands = (refl, sure_edited objective edits old.instance new.instance old.unsure new.unsure stands.1 (subst (λ o. IsRaisedFor o old.instance new.instance → old.unsure ≡ 0 → new.unsure ≤ 1) same did.few));
    }

-- an edit is followed
pub WritesLine-edit : (brief : Bool) (objective : Objective) (standing : Standing) (old new : EditorOf) (edit : Edit) (before : Option (List ℕ)) → old.objective ≡ objective → Edits old edit new → Stands objective standing old → Puts before before []
    → WritesLine brief objective old.instance standing (Edits_line edit) new before before
WritesLine-edit brief objective standing old new edit before same did stands puts =
    let is = IsLeft-edited objective old new edit same did standing.edits standing.kept stands in
    record {
      text = [];
      after = edited_standing standing old.instance new.instance is.left;
      followed = (refl, is.left, is.keeps, refl, is.stands);
      stands = is.stands;
      puts = puts;
    }

-- ---- a document

adds_few : (objective : Objective) (edits : List (Problem × Problem)) (unsure : ℕ) (more : List (PhaseOf Word)) → length more ≤ unsure → AreSure objective edits unsure → AddsFew objective edits more
adds_few objective [] unsure more few sure = omega (arith, few, sure)
adds_few objective (step ∷ []) unsure more few sure = λ raised. let one = sure raised in omega (arith, few, one)
adds_few objective (step ∷ other ∷ rest) unsure more few sure = tt

goes_on : (objective : Objective) (old new : EditorOf) (words : List (PhaseOf Word)) → GoesTo old new → words ≡ new.phases → (edits : List (Problem × Problem)) (kept : Option (List (PhaseOf Word))) → KeepsStanding objective edits kept old → GoesOnFrom objective edits kept words
goes_on objective old new words go is edits None stands = tt
goes_on objective old new words go is edits (Some kept) stands =
    (go.more, is ∙ go.phases ∙ ap (λ ps. ps ++ go.more) stands.0, adds_few objective edits old.unsure go.more go.few stands.1)

claim_goes : (objective : Objective) (standing : Standing) (old new : EditorOf) (claim : Claim) → GoesTo old new → ClaimsBy new claim → Stands objective standing old → ClaimGoesOn objective standing claim
claim_goes objective standing old new (Best answer (Phases words)) go claims stands = goes_on objective old new words go claims.0 standing.edits standing.kept stands
claim_goes objective standing old new (Best answer (Below rows)) go claims stands = absurd claims.0
claim_goes objective standing old new (Best answer (Windows windows)) go claims stands = absurd claims.0
claim_goes objective standing old new (Best answer (Levels perm levels)) go claims stands = absurd claims.0
claim_goes objective standing old new (Nothing rows) go claims stands = tt
claim_goes objective standing old new (Ranked count answers nodes) go claims stands = absurd claims

claim_stands : (objective : Objective) (editor : EditorOf) (claim : Claim) → ClaimsBy editor claim → KeepsStanding objective [] (claimed_phases claim) editor
claim_stands objective editor (Best answer (Phases words)) claims = (sym claims.0, claims.1)
claim_stands objective editor (Best answer (Below rows)) claims = tt
claim_stands objective editor (Best answer (Windows windows)) claims = tt
claim_stands objective editor (Best answer (Levels perm levels)) claims = tt
claim_stands objective editor (Nothing rows) claims = tt
claim_stands objective editor (Ranked count answers nodes) claims = tt

-- the document of an editor's answer goes on from what was kept
GoesOnTo-answered : (objective : Objective) (standing : Standing) (old new : EditorOf) (document : Document) → GoesTo old new → IsEditDocument objective new document → Stands objective standing old → GoesOnTo objective standing new document
GoesOnTo-answered objective standing old new document go is stands = record {
  written = is.written;
  goes = claim_goes objective standing old new document.claim go is.claims stands;
  stands = claim_stands objective new document.claim is.claims;
}

pub IsTold-answered : (objective : Objective) (standing : Standing) (old new : EditorOf) (document sheet : Document) → sheet ≡ document → GoesTo old new → IsEditDocument objective new document → Stands objective standing old → IsTold false objective standing new (text_of sheet)
IsTold-answered objective standing old new document sheet same go is stands =
    let goes = GoesOnTo-answered objective standing old new document go is stands in
    record { after = standing_of document; tells = (document, ap text_of same, refl, goes); stands = goes.stands }

-- a brief line goes on from anything
pub IsTold-briefly : (objective : Objective) (standing : Standing) (editor : EditorOf) (text : List ℕ) → IsBriefLine objective editor.instance text → IsTold true objective standing editor text
IsTold-briefly objective standing editor text line = record { after = at_first; tells = (line, refl); stands = tt }

-- an answer is written
pub WritesLine-solve : (brief : Bool) (objective : Objective) (standing : Standing) (X : Problem) (new : EditorOf) (before now : Option (List ℕ)) → (text : List ℕ) × IsTold brief objective standing new text × Puts before now text
    → WritesLine brief objective X standing Solve new before now
WritesLine-solve brief objective standing X new before now (text, told, puts) = record {
  text = text;
  after = told.after;
  followed = told.tells;
  stands = told.stands;
  puts = puts;
}

-- or a part of it
pub HaltsIn-solve : (brief : Bool) (objective : Objective) (standing : Standing) (X : Problem) (new : EditorOf) (before now : Option (List ℕ)) (halt : Halt) → new.instance ≡ X → (halt ≡ WriteFault → (text : List ℕ) × IsTold brief objective standing new text × PutsPrefix before now text) → (halt ≡ NoMemory → now ≡ before)
    → HaltsIn brief objective X standing Solve before now halt
HaltsIn-solve brief objective standing X new before now WriteFault same put unwritten =
    let (text, told, puts) = put refl in
    (text, told.after, new, same, told.tells, puts)
HaltsIn-solve brief objective standing X new before now NoMemory same put unwritten = unwritten refl

-- ---- lines

-- the first lines were followed
pub record AreFollowed (brief : Bool) (objective : Objective) (X : Problem) (lines : List (ℕ × Line)) (place : ℕ) (editor : EditorOf) (before now : Option (List ℕ)) : Type 0 where
  pub text : List ℕ
  pub standing : Standing
  pub stands : Stands objective standing editor
  pub puts : Puts before now text
  pub rest : (later : List (ℕ × Line)) (other : List ℕ) → TellsEdits brief objective editor.instance standing later other → TellsEdits brief objective X at_first (take place lines ++ later) (text ++ other)

pub AreFollowed-none : (brief : Bool) (objective : Objective) (lines : List (ℕ × Line)) (editor : EditorOf) (before : Option (List ℕ)) → Puts before before [] → AreFollowed brief objective editor.instance lines 0 editor before before
AreFollowed-none brief objective lines editor before puts = record { text = []; standing = at_first; stands = tt; puts = puts; rest = λ later other told. told }

-- nothing more is told of no lines
tells_none : (brief : Bool) (objective : Objective) (X : Problem) (standing : Standing) → TellsEdits brief objective X standing [] []
tells_none false objective X standing = ([], tt, refl)
tells_none true objective X standing = refl

-- one line more
line_rest : (brief : Bool) (objective : Objective) (X : Problem) (standing after : Standing) (number : ℕ) (line : Line) (text : List ℕ) (editor : EditorOf) → editor.instance ≡ after_line X line → IsFollowed brief objective X standing line text after editor
    → (later : List (ℕ × Line)) (other : List ℕ) → TellsEdits brief objective editor.instance after later other → TellsEdits brief objective X standing ((number, line) ∷ later) (text ++ other)
line_rest false objective X standing after number (Edits_line edit) text editor is (none, left, keeps, leaves, stands) later other (others, are, told) =
    let keeps' : KeepsOn objective (edited X edit) standing.kept left = subst (λ Z. KeepsOn objective Z standing.kept left) is keeps in
    let are' = subst (λ s. AreEditDocuments objective editor.instance s later others) leaves are in
    let are'' : AreEditDocuments objective (edited X edit) (edited_standing standing X (edited X edit) left) later others = subst (λ Z. AreEditDocuments objective Z (edited_standing standing X Z left) later others) is are' in
    (others, (left, keeps', are''), ap (λ t. t ++ other) none ∙ told)
line_rest false objective X standing after number Solve text editor is (document, one, leaves, goes) later other (others, are, told) =
    let are' = subst (λ s. AreEditDocuments objective editor.instance s later others) leaves are in (
      document ∷ others,
      (subst (λ Z. IsWritten objective Z forms.Edit document) is goes.written, goes.goes, subst (λ Z. AreEditDocuments objective Z (standing_of document) later others) is are'),
      λ i. one i ++ told i,
    )
line_rest true objective X standing after number (Edits_line edit) text editor is (none, left, keeps, leaves, stands) later other told =
    subst (AreBriefLines objective (solved_instances (edited X edit) later)) (sym (ap (λ t. t ++ other) none)) (subst (λ Z. AreBriefLines objective (solved_instances Z later) other) is told)
line_rest true objective X standing after number Solve text editor is (line, leaves) later other told =
    (text, other, subst (λ Z. IsBriefLine objective Z text) is line, subst (λ Z. AreBriefLines objective (solved_instances Z later) other) is told, refl)

firsts_more : (lines : List (ℕ × Line)) (place : ℕ) (d : ℕ × Line) → place < length lines → (later : List (ℕ × Line)) → take (place + 1) lines ++ later ≡ take place lines ++ get_or lines place d ∷ later
firsts_more lines place d within later = ap (λ ls. ls ++ later) (take_more lines place d within) ∙ append_assoc (take place lines) (get_or lines place d ∷ []) later

pub AreFollowed-more : (brief : Bool) (objective : Objective) (X : Problem) (lines : List (ℕ × Line)) (place : ℕ) (d : ℕ × Line) (old new : EditorOf) (before now after : Option (List ℕ)) → place < length lines
    → (so_far : AreFollowed brief objective X lines place old before now) → WritesLine brief objective old.instance so_far.standing (get_or lines place d).1 new now after → new.instance ≡ after_line old.instance (get_or lines place d).1
    → AreFollowed brief objective X lines (place + 1) new before after
AreFollowed-more brief objective X lines place d old new before now after within so_far writes follows =
    let next = get_or lines place d in
    record {
      text = so_far.text ++ writes.text;
      standing = writes.after;
      stands = writes.stands;
      puts = Puts-append so_far.puts writes.puts;
      rest = λ later other told.
          let all = so_far.rest (next ∷ later) (writes.text ++ other) (line_rest brief objective old.instance so_far.standing writes.after next.0 next.1 writes.text new follows writes.followed later other told) in
          subst (λ ls. TellsEdits brief objective X at_first ls ((so_far.text ++ writes.text) ++ other)) (sym (firsts_more lines place d within later))
          (subst (TellsEdits brief objective X at_first (take place lines ++ next ∷ later)) (sym (append_assoc so_far.text writes.text other)) all);
    }

-- what the first lines tell
tells_firsts : (brief : Bool) (objective : Objective) (X : Problem) (lines : List (ℕ × Line)) (place : ℕ) (editor : EditorOf) (before now : Option (List ℕ)) → (so_far : AreFollowed brief objective X lines place editor before now) → TellsScript brief objective X (take place lines) so_far.text
tells_firsts brief objective X lines place editor before now so_far =
    subst (λ ls. TellsScript brief objective X ls so_far.text) (append-nil (take place lines))
    (subst (TellsScript brief objective X (take place lines ++ [])) (append-nil so_far.text) (so_far.rest [] [] (tells_none brief objective editor.instance so_far.standing)))

-- all lines
pub WritesAll-followed : (brief : Bool) (objective : Objective) (X : Problem) (lines : List (ℕ × Line)) (place : ℕ) (editor : EditorOf) (before now : Option (List ℕ)) → length lines ≤ place → AreFollowed brief objective X lines place editor before now → WritesAll brief objective X lines before now
WritesAll-followed brief objective X lines place editor before now past so_far =
    (so_far.text, subst (λ ls. TellsScript brief objective X ls so_far.text) (take_all place lines past) (tells_firsts brief objective X lines place editor before now so_far), so_far.puts)

-- what is put whole is put in part
pub PutsPrefix-whole : (before now : Option (List ℕ)) (text : List ℕ) → Puts before now text → PutsPrefix before now text
PutsPrefix-whole before now text puts = record {
  taken = length text;
  within = omega arith;
  put = subst (Puts before now) (sym (take_all (length text) text (omega arith))) puts;
}

-- the first lines, where the next one halts
pub WritesFront-halted : (brief : Bool) (objective : Objective) (X : Problem) (lines : List (ℕ × Line)) (place : ℕ) (d : ℕ × Line) (old : EditorOf) (before now after : Option (List ℕ)) (halt : Halt) → place < length lines
    → (so_far : AreFollowed brief objective X lines place old before now) → HaltsIn brief objective old.instance so_far.standing (get_or lines place d).1 now after halt
    → WritesFront brief objective X lines before after
WritesFront-halted brief objective X lines place d old before now after NoMemory within so_far halts = (
  take place lines,
  drop place lines,
  sym (take-append-drop place lines),
  so_far.text,
  tells_firsts brief objective X lines place old before now so_far,
  subst (λ w. PutsPrefix before w so_far.text) (sym halts) (PutsPrefix-whole before now so_far.text so_far.puts),
)
WritesFront-halted brief objective X lines place d old before now after WriteFault within so_far (text, standing, editor, follows, followed, puts) =
    let next = get_or lines place d in
    let none = tells_none brief objective editor.instance standing in
    let one = subst (TellsEdits brief objective old.instance so_far.standing (next ∷ [])) (append-nil text) (line_rest brief objective old.instance so_far.standing standing next.0 next.1 text editor follows followed [] [] none) in
    let all = so_far.rest (next ∷ []) text one in
    let firsts : take place lines ++ next ∷ [] ≡ take (place + 1) lines = sym (take_more lines place d within) in (
      take (place + 1) lines,
      drop (place + 1) lines,
      sym (take-append-drop (place + 1) lines),
      so_far.text ++ text,
      subst (λ ls. TellsScript brief objective X ls (so_far.text ++ text)) firsts all,
      PutsPrefix-append so_far.puts puts,
    )
