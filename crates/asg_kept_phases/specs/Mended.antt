-- Cells that were changed beneath phases that are all kept.
use Rattle.std.specs.Prelude.{◌≡◌, ◌≤◌, ◌<◌, ℕ, List, All, Option, Some, IfSome}
use Rattle.asg_admit.specs.KeptCells.{AllowsPhases, cell_after_phases}
use Rattle.asg_admit.specs.Reduced.{KeepsLabels}
use Rattle.asg_admit.specs.declared.reduced.Reduced.{Reduced}
use Rattle.asg_model.specs.declared.objectives.Objective.{Objective}
use Rattle.asg_model.specs.declared.parts.Cost.{Cost}
use Rattle.asg_model.specs.Limits.{most_cost}
use Rattle.asg_model.specs.Problem.{Problem}
use Rattle.asg_model.specs.Refused.{PassesNegative}
use Rattle.asg_model.specs.Shapes.{square_side}
use Rattle.asg_order.specs.Monoid.{Monoid}
use Rattle.asg_pool.specs.Forest.{Forest, IsLive}
use Rattle.asg_proof.specs.Phases.{PhaseOf, AreAdmittedPhases, after_phases, index_of}
use Rattle.asg_proof.specs.Steps.{HasValues}
use Rattle.asg_square.specs.Cells.{square_cell}
use Rattle.asg_square.specs.Grid.{Grid, cell_at, HasLabelsOf}
use Rattle.asg_square.specs.Labels.{column_label}
use Rattle.asg_kept_phases.specs.NamedPlaces.{IsAtRow}
use Rattle.asg_admit.specs.PhaseValues.{AreOfValues}
use Rattle.asg_kept_phases.specs.PhasesAlong.{phases_along}

-- each cell that was seen is that of the changed square after the phases, and all others stay
pub record MendsCells {V : Type 0} (M : Monoid V) (difference : V → V → V)
    (phases : List (PhaseOf V)) (after : ℕ → ℕ → Option V) (is_seen : ℕ → ℕ → Type 0)
    (old new : Grid V) : Type 0 where
  pub labels : KeepsLabels old new
  pub mended : (r k : ℕ) → r < old.side → k < old.side → is_seen r k
      → cell_at new r k ≡ cell_after_phases M difference phases r k (after r k)
  pub others : (r k : ℕ) → (is_seen r k → ⊥) → cell_at new r k ≡ cell_at old r k

-- the cells of the square of an instance are values, and each allows the phases of the trails
pub record AllowTrails {V : Type 0} (M : Monoid V) (difference : V → V → V) (enter : Cost → V)
    (objective : Objective) (reach : ℕ) (X : Problem) (F : Forest V) (trails : List ℕ)
    : Type 0 where
  pub passes : PassesNegative objective X
  pub far : most_cost ≤ reach
  pub live : All (IsLive F) trails
  pub side : F.side ≡ square_side X
  pub steps : AreOfValues M (phases_along F trails)
  pub cells : HasValues M F.side (square_cell X M.unit enter)
  pub allow : (r k : ℕ) → r < F.side → k < F.side
      → AllowsPhases M difference (phases_along F trails) r k (square_cell X M.unit enter r k)

-- phases lead from the square of an instance to a reduced square, but for the cells in the copies
-- of a column, of one row or of all
pub record IsLedBut {V : Type 0} (M : Monoid V) (difference : V → V → V) (enter : Cost → V)
    (X : Problem) (phases : List (PhaseOf V)) (row : Option ℕ) (q : ℕ) (reduced : Reduced V)
    : Type 0 where
  pub row_below : IfSome row (λ r. r < square_side X)
  pub labels : HasLabelsOf X reduced.now
  pub admitted :
      AreAdmittedPhases M difference (square_side X) phases (square_cell X M.unit enter)
  pub others : (r k : ℕ) → r < square_side X → k < square_side X
      → (IsAtRow row r × (column_label X k ≡ Some q) → ⊥)
      → cell_at reduced.now r k ≡ after_phases M difference phases (square_cell X M.unit enter) r k
  pub index : reduced.index ≡ index_of M phases
