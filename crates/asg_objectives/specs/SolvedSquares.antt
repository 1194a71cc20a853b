-- What the square of an instance comes to.
use Rattle.std.specs.Prelude.{◌≡◌, ℕ, ◌<◌, List, length, Option, slice_index}
use Rattle.asg_match.specs.HallSets.{GivesHallSets}
use Rattle.asg_match.specs.Matching.{Matches}
use Rattle.asg_model.specs.declared.parts.Cost.{Cost}
use Rattle.asg_model.specs.Problem.{Problem}
use Rattle.asg_order.specs.declared.words.Word.{Word}
use Rattle.asg_order.specs.Monoid.{Monoid}
use Rattle.asg_proof.specs.declared.outcomes.Outcome.{Outcome}
use Rattle.asg_proof.specs.declared.outcomes.Outcome.TheVariants.{Best, Nothing}
use Rattle.asg_proof.specs.declared.outcomes.Proof.{Proof}
use Rattle.asg_proof.specs.declared.outcomes.Proof.TheVariants.{Phases}
use Rattle.asg_proof.specs.PhaseProofs.{EntersValues}
use Rattle.asg_proof.specs.Phases.{PhaseOf}
use Rattle.asg_square.specs.Cells.{IsPresent}
use Rattle.asg_square.specs.Grid.{Grid, cell_at, IsSquareOf, IsPerm, grid_choice, IsValidWithin}
use Rattle.asg_objectives.specs.FoldOutcomes.{IsFoldOutcome}

-- the choice of the perfect assignment of the square by which each row has its column of the
-- matching
pub record IsChoiceBy {V : Type 0} (Q : Grid V) (matching choice : List (Option ℕ)) : Type 0 where
  pub columns : List ℕ
  pub over : length columns ≡ length matching
  pub matched : (r : ℕ) → r < length matching → Matches matching r (slice_index columns r)
  pub perm : IsPerm Q columns
  pub chosen : choice ≡ grid_choice Q columns
  pub valid : IsValidWithin Q choice

-- the proof is these phases
abbrev pub HasWords : List (PhaseOf Word) → Proof → Type 0
HasWords words (Phases phases) = phases ≡ words
HasWords words _ = ⊥

-- the outcome is the choice by the matching, with these phases
abbrev pub IsBestBy : {V : Type 0} → Grid V → List (Option ℕ) → List (PhaseOf Word) → Outcome → Type 0
IsBestBy Q matching words (Best choice proof) = IsChoiceBy Q matching choice × HasWords words proof
IsBestBy Q matching words (Nothing rows) = ⊥

-- the outcome is a Hall set of each instance whose square has exactly the present cells
abbrev pub IsNothingBy : {V : Type 0} → Problem → Grid V → Outcome → Type 0
IsNothingBy X Q (Best choice proof) = ⊥
IsNothingBy X Q (Nothing rows) = GivesHallSets X (IsPresent (cell_at Q)) rows

-- an outcome of the instance whose square this is, however its live costs enter as values
abbrev pub IsSquareOutcome : {V : Type 0} → Monoid V → (V → V → V) → (V → Word) → Problem → Grid V
    → Outcome → Type 0
IsSquareOutcome {V} M difference word_of X Q outcome =
    (enter : Cost → V) → IsSquareOf X M.unit enter Q → EntersValues M enter X
    → IsFoldOutcome M difference word_of enter X outcome
