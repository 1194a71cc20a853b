-- Where an editor stands between two documents. The program's specification doesn't cite this.
use Rattle.std.specs.Prelude.{◌≡◌, ℕ, ◌≤◌, Bool, true, false, List, [], ◌∷◌, Option, Some, None}
use Rattle.asg_model.specs.declared.objectives.Objective.{Objective}
use Rattle.asg_model.specs.Problem.{Problem}
use Rattle.asg_order.specs.declared.words.Word.{Word}
use Rattle.asg_proof.specs.KeptWords.{IsRaisedFor, KeepsOn, Standing}
use Rattle.asg_proof.specs.Phases.{PhaseOf}
use Rattle.asg_doc.specs.declared.documents.Claim.{Claim}
use Rattle.asg_doc.specs.declared.documents.Claim.TheVariants.{Best, Nothing}
use Rattle.asg_doc.specs.declared.documents.Document.{Document}
use Rattle.asg_doc.specs.Text.{text_of}
use Rattle.asg_brief.specs.BriefLines.{IsBriefLine}
use Rattle.asg_check.specs.declared.document_forms.Form.TheVariants as forms
use Rattle.asg_edits.specs.Editors.{EditorOf}
use Rattle.asg_edits.specs.EditOutcomes.{IsPhases}
use Rattle.asg_text.specs.declared.script_lines.Line.{Line}
use Rattle.asg_text.specs.declared.script_lines.Line.TheVariants.{Edit, Solve}
use Rattle.asg_answers.specs.EditDocuments.{ClaimGoesOn, at_first, edited_standing, standing_of}
use Rattle.asg_answers.specs.WrittenDocument.{IsWritten}

-- so many rows aren't sure of a column: none after a document, and at most one after an edit that
-- raises or removes cells
abbrev pub AreSure : Objective → List (Problem × Problem) → ℕ → Type 0
AreSure objective [] unsure = unsure ≡ 0
AreSure objective (step ∷ []) unsure = IsRaisedFor objective step.0 step.1 → unsure ≤ 1
AreSure objective (step ∷ other ∷ rest) unsure = Unit {0}

-- an editor's phases are those that were kept
abbrev pub KeepsStanding : Objective → List (Problem × Problem) → Option (List (PhaseOf Word))
    → EditorOf → Type 0
KeepsStanding objective edits None editor = Unit {0}
KeepsStanding objective edits (Some kept) editor =
    (editor.phases ≡ kept) × AreSure objective edits editor.unsure

-- the editor stands so
abbrev pub Stands : Objective → Standing → EditorOf → Type 0
Stands objective standing editor = KeepsStanding objective standing.edits standing.kept editor

-- a claim that a choice is best by these phases, after which each row is sure of its column; or
-- that no choice is valid
abbrev pub ClaimsBy : EditorOf → Claim → Type 0
ClaimsBy editor (Best answer proof) = IsPhases editor.phases proof × (editor.unsure ≡ 0)
ClaimsBy editor (Nothing rows) = Unit {0}
ClaimsBy editor _ = ⊥

-- a document that may be written for an edited instance, with the claim of an editor
pub record IsEditDocument (objective : Objective) (editor : EditorOf) (document : Document)
    : Type 0 where
  pub written : IsWritten objective editor.instance forms.Edit document
  pub claims : ClaimsBy editor document.claim

-- a document that goes on from what was kept, and where the editor stands after it
pub record GoesOnTo (objective : Objective) (standing : Standing) (editor : EditorOf)
    (document : Document) : Type 0 where
  pub written : IsWritten objective editor.instance forms.Edit document
  pub goes : ClaimGoesOn objective standing document.claim
  pub stands : Stands objective (standing_of document) editor

-- the text of an editor's answer: that of a document that goes on from what was kept, or in brief a
-- line; and what the document after it must go on from
abbrev pub TellsAnswer : Bool → Objective → Standing → EditorOf → List ℕ → Standing → Type 0
TellsAnswer false objective standing editor text after = (document : Document)
    × (text ≡ text_of document) × (after ≡ standing_of document)
    × GoesOnTo objective standing editor document
TellsAnswer true objective standing editor text after =
    IsBriefLine objective editor.instance text × (after ≡ at_first)

-- an editor's answer is told by a text, and the editor stands so after it
pub record IsTold (brief : Bool) (objective : Objective) (standing : Standing) (editor : EditorOf)
    (text : List ℕ) : Type 0 where
  pub after : Standing
  pub tells : TellsAnswer brief objective standing editor text after
  pub stands : Stands objective after editor

-- a line was followed from an instance and what was kept on, with this text, to where the editor
-- stands
abbrev pub IsFollowed : Bool → Objective → Problem → Standing → Line → List ℕ → Standing
    → EditorOf → Type 0
IsFollowed brief objective X standing (Edit edit) text after editor =
    (text ≡ []) × (left : Option (List (PhaseOf Word)))
    × KeepsOn objective editor.instance standing.kept left
    × (after ≡ edited_standing standing X editor.instance left)
    × Stands objective after editor
IsFollowed brief objective X standing Solve text after editor =
    TellsAnswer brief objective standing editor text after
