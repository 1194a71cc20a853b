-- A square that phases have reduced, with the product of their steps.
use Rattle.std.specs.Prelude.{◌≡◌, ◌⊎◌, ℕ, ◌<◌, is_some}
use Rattle.asg_order.specs.Monoid.{Monoid, IsValue, fold_of}
pub use Rattle.asg_proof.specs.Phases.{phase_of}
use Rattle.asg_proof.specs.Phases.{PhaseOf, after_phase}
use Rattle.asg_proof.specs.Steps.{HasValues}
use Rattle.asg_square.specs.Grid.{Grid, cell_at}
use Rattle.asg_admit.specs.declared.reduced.Reduced.{Reduced}

-- each present cell is a value, and so is the index
pub record IsReduced {V : Type 0} (M : Monoid V) (reduced : Reduced V) : Type 0 where
  pub cells : HasValues M reduced.now.side (cell_at reduced.now)
  pub index : IsValue M reduced.index

-- the side, the number of instance rows and all labels are the same
pub record KeepsLabels {V : Type 0} (before after : Grid V) : Type 0 where
  pub side : after.side ≡ before.side
  pub rows : after.rows ≡ before.rows
  pub row_labels : after.row_labels ≡ before.row_labels
  pub column_labels : after.column_labels ≡ before.column_labels

-- the labels are the same, and so is which cells are present; their values may be others
pub record KeepsPresence {V : Type 0} (before after : Grid V) : Type 0 where
  pub labels : KeepsLabels before after
  pub present : (r k : ℕ) → is_some (cell_at after r k) ≡ is_some (cell_at before r k)

-- what a phase makes of a reduced square: each cell is that after the phase, the index is
-- multiplied by all steps, the labels stay, and the cells and the index are values
pub record IsPhaseTo {V : Type 0} (M : Monoid V) (difference : V → V → V) (phase : PhaseOf V)
    (before after : Reduced V) : Type 0 where
  pub cells : (r k : ℕ) →
      cell_at after.now r k ≡ after_phase M difference phase (cell_at before.now) r k
  pub index : after.index ≡ M.product before.index (fold_of M phase.steps)
  pub labels : KeepsLabels before.now after.now
  pub reduced : IsReduced M after

-- what a phase that is applied in part makes of a reduced square: each cell is as it was or that
-- after the phase, the labels and the index stay, and the cells and the index are values
pub record IsPhaseInPart {V : Type 0} (M : Monoid V) (difference : V → V → V) (phase : PhaseOf V)
    (before after : Reduced V) : Type 0 where
  pub cells : (r k : ℕ) → r < before.now.side → k < before.now.side
      → (cell_at after.now r k ≡ cell_at before.now r k)
      ⊎ (cell_at after.now r k ≡ after_phase M difference phase (cell_at before.now) r k)
  pub index : after.index ≡ before.index
  pub labels : KeepsLabels before.now after.now
  pub reduced : IsReduced M after
