-- The parts of a document that claims a best choice or a ranking.
use Rattle.std.specs.Prelude.{◌≡◌, ℕ, List, map, All, Option, option_and_then, slice_get}
use Rattle.asg_model.specs.declared.objectives.Objective.{Objective}
use Rattle.asg_model.specs.Problem.{Problem}
use Rattle.asg_model.specs.Values.{choice_value}
use Rattle.asg_proof.specs.declared.outcomes.Proof.{Proof}
use Rattle.asg_proof.specs.declared.outcomes.Proof.TheVariants.{Below, Levels, Phases, Windows}
use Rattle.asg_proof.specs.ColumnLists.{ArePlaces}
use Rattle.asg_proof.specs.LevelLists.{AreLevelParts}
use Rattle.asg_proof.specs.Phases.{ArePhases}
use Rattle.asg_proof.specs.RowIds.{AreIds}
use Rattle.asg_proof.specs.Windows.{AreWindows}
use Rattle.asg_doc.specs.declared.documents.Answer.{Answer}
use Rattle.asg_doc.specs.ChosenCells.{cell_by_id, cells_by_id}
use Rattle.asg_doc.specs.HasText.{HasAnswerText}

-- the cell that the row at a place chooses, by id
abbrev pub cell_at : Problem → List (Option ℕ) → ℕ → Option (ℕ × ℕ)
cell_at X f r = option_and_then (λ row.
    option_and_then (λ chosen. cell_by_id X (row, chosen)) (slice_get f r)) (slice_get X.rows r)

-- the ids of a threshold proof and of windows, the steps at which rows enter and columns leave, the
-- columns of an assignment and the counts of levels have 32 bits; the costs of windows and of
-- levels have 64
abbrev pub KeepsRanges : Proof → Type 0
KeepsRanges (Phases words) = ArePhases words
KeepsRanges (Below rows) = AreIds rows
KeepsRanges (Windows windows) = AreWindows windows
KeepsRanges (Levels perm levels) = ArePlaces perm × AreLevelParts levels

-- the answers of choices in order: their cells, their values, each with a text
pub record AreAnswersOf (objective : Objective) (X : Problem) (choices : List (List (Option ℕ)))
    (answers : List Answer) : Type 0 where
  pub cells : map (λ answer. answer.cells) answers ≡ map (cells_by_id X) choices
  pub values : map (λ answer. answer.value) answers ≡ map (choice_value objective X) choices
  pub texts : All (HasAnswerText objective) answers
