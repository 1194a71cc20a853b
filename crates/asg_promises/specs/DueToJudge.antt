-- What is due where documents are judged, each for its instance.
use Rattle.std.specs.Prelude.{◌≡◌, ◌⊎◌, ℕ, ◌+◌, ℤ, List, [], ◌∷◌}
use Rattle.asg_model.specs.declared.objectives.Objective.{Objective}
use Rattle.asg_model.specs.Problem.{Problem}
use Rattle.asg_doc.specs.declared.documents.Document.{Document}
use Rattle.asg_check.specs.declared.document_forms.Form.{Form}
use Rattle.asg_check.specs.Certifies.{Certifies}
use Rattle.asg_check.specs.Reasons.{IsFirstReason}
use Rattle.asg_check.specs.TrueClaim.{ClaimsTruly}
use Rattle.asg_answers.specs.declared.status.Status.{Status}
use Rattle.asg_answers.specs.declared.status.Status.TheVariants.{Done, No}
use Rattle.asg_answers.specs.Texts.{yes_text, no_text}

-- the document behind so many doesn't certify for its instance, by its first reason
pub record IsDeniedBehind (objective : Objective) (form : Form) (count : ℕ) (X : Problem)
    (document : Document) (status : Status) (text : List ℕ) : Type 0 where
  pub fails : ¬ Certifies objective X form document
  pub number : ℕ
  pub place : ℤ
  pub reason : IsFirstReason objective X form document number place
  pub ended : status ≡ No
  pub told : text ≡ no_text (count + 1) number place

-- how documents of a form are judged for their instances, behind so many that certify: each of them
-- certifies, and what it claims is true, or the first that doesn't is denied
abbrev pub DueToJudge : Objective → Form → ℕ → List Problem → List Document → Status → List ℕ
    → Type 0
DueToJudge objective form count [] [] status text = (status ≡ Done) × (text ≡ yes_text count)
DueToJudge objective form count [] (document ∷ documents) status text = ⊥
DueToJudge objective form count (X ∷ instances) [] status text = ⊥
DueToJudge objective form count (X ∷ instances) (document ∷ documents) status text =
    (Certifies objective X form document × ClaimsTruly objective X document
    × DueToJudge objective form (count + 1) instances documents status text)
    ⊎ IsDeniedBehind objective form count X document status text
