-- The documents of a script: one for each `solve` line.
use Rattle.std.specs.Prelude.{ℕ, List, [], ◌∷◌, ◌++◌, Option, Some, None}
use Rattle.asg_model.specs.declared.objectives.Objective.{Objective}
use Rattle.asg_model.specs.Edits.{edited}
use Rattle.asg_model.specs.Problem.{Problem}
use Rattle.asg_order.specs.declared.words.Word.{Word}
use Rattle.asg_proof.specs.KeptWords.{GoesOn, KeepsOn, Standing}
use Rattle.asg_proof.specs.Phases.{PhaseOf}
use Rattle.asg_proof.specs.declared.outcomes.Proof.TheVariants.{Phases}
use Rattle.asg_doc.specs.declared.documents.Claim.{Claim}
use Rattle.asg_doc.specs.declared.documents.Claim.TheVariants.{Best, Nothing}
use Rattle.asg_doc.specs.declared.documents.Document.{Document}
use Rattle.asg_check.specs.declared.document_forms.Form.TheVariants as forms
use Rattle.asg_text.specs.declared.script_lines.Line.{Line}
use Rattle.asg_text.specs.declared.script_lines.Line.TheVariants.{Edit, Solve}
use Rattle.asg_answers.specs.WrittenDocument.{IsWritten}

-- before the first document nothing is kept
abbrev pub at_first : Standing
at_first = record { kept = None; edits = [] }

-- the phases of a claim that a choice is best
abbrev pub claimed_phases : Claim → Option (List (PhaseOf Word))
claimed_phases (Best answer (Phases words)) = Some words
claimed_phases _ = None

-- what the next document must go on from, after a document
abbrev pub standing_of : Document → Standing
standing_of document = record { kept = claimed_phases document.claim; edits = [] }

-- the same after one more edit, where so much is left
abbrev pub edited_standing : Standing → Problem → Problem → Option (List (PhaseOf Word)) → Standing
edited_standing standing X Y left =
    record { kept = left; edits = standing.edits ++ (X, Y) ∷ [] }

-- a claim goes on from what was kept: a best choice by phases that do; that no choice is valid
-- always does
abbrev pub ClaimGoesOn : Objective → Standing → Claim → Type 0
ClaimGoesOn objective standing (Best answer (Phases words)) = GoesOn objective standing words
ClaimGoesOn objective standing (Nothing rows) = Unit {0}
ClaimGoesOn objective standing _ = ⊥

-- the documents for the lines of a script, from an instance and what was kept on: for each `solve`
-- line one that may be written for the instance as it is then, and goes on from what the edits
-- since the one before it have kept of its phases
abbrev pub AreEditDocuments : Objective → Problem → Standing → List (ℕ × Line) → List Document
    → Type 0
AreEditDocuments objective X standing [] [] = Unit {0}
AreEditDocuments objective X standing [] (document ∷ documents) = ⊥
AreEditDocuments objective X standing ((number, Edit edit) ∷ lines) documents =
    (left : Option (List (PhaseOf Word))) × KeepsOn objective (edited X edit) standing.kept left
    × AreEditDocuments objective (edited X edit)
    (edited_standing standing X (edited X edit) left) lines documents
AreEditDocuments objective X standing ((number, Solve) ∷ lines) [] = ⊥
AreEditDocuments objective X standing ((number, Solve) ∷ lines) (document ∷ documents) =
    IsWritten objective X forms.Edit document × ClaimGoesOn objective standing document.claim
    × AreEditDocuments objective X (standing_of document) lines documents
