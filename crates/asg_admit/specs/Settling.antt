-- What parts of a phase change of a square.
use Rattle.std.specs.Prelude.{◌≡◌, ◌≢◌, ◌⊎◌, ℕ, ◌<◌, ◌≤◌, Bool, List, length, Option, Some, slice_index}
use Rattle.std.specs.Option.{option_map}
use Rattle.asg_order.specs.Monoid.{Monoid, IsValue}
use Rattle.asg_proof.specs.Phases.{PhaseOf}
use Rattle.asg_proof.specs.Steps.{moved}
use Rattle.asg_square.specs.Grid.{Grid, cell_at}
use Rattle.asg_admit.specs.Reduced.{KeepsLabels}
use Rattle.asg_admit.specs.Settled.{settled, settled_at}

-- the cell is a value, if it is present
abbrev pub HasValueAt : {V : Type 0} → Monoid V → Grid V → ℕ → ℕ → Type 0
HasValueAt {V} M Q r k = (x : V) → cell_at Q r k ≡ Some x → IsValue M x

-- one cell of the square became this one
pub record IsWritten {V : Type 0} (before after : Grid V) (row column : ℕ) (cell : Option V) : Type 0 where
  pub labels : KeepsLabels before after
  pub here : cell_at after row column ≡ cell
  pub others : (r k : ℕ) → (r ≢ row) ⊎ (k ≢ column) → cell_at after r k ≡ cell_at before r k

-- the cells of a row that enters at this step are those after the steps, and all others stay
pub record SettlesRow {V : Type 0} (M : Monoid V) (difference : V → V → V) (steps : List V)
    (enter : ℕ) (leaves : List ℕ) (before after : Grid V) (row : ℕ) : Type 0 where
  pub labels : KeepsLabels before after
  pub cells : (k : ℕ) → k < before.side → cell_at after row k
      ≡ option_map (settled M difference steps enter (slice_index leaves k)) (cell_at before row k)
  pub others : (r k : ℕ) → r ≢ row → cell_at after r k ≡ cell_at before r k

-- the rows that never enter are those after the phase, and all others stay
pub record SettlesWaiting {V : Type 0} (M : Monoid V) (difference : V → V → V) (phase : PhaseOf V)
    (before after : Grid V) : Type 0 where
  pub labels : KeepsLabels before after
  pub waiting : (r k : ℕ) → r < before.side → k < before.side
      → length phase.steps ≤ slice_index phase.enters r
      → cell_at after r k ≡ settled_at M difference phase (cell_at before) r k
  pub entered : (r k : ℕ) → slice_index phase.enters r < length phase.steps
      → cell_at after r k ≡ cell_at before r k

-- the rows that enter are those after the phase, and all others stay
pub record SettlesEntered {V : Type 0} (M : Monoid V) (difference : V → V → V) (phase : PhaseOf V)
    (before after : Grid V) : Type 0 where
  pub labels : KeepsLabels before after
  pub entered : (r k : ℕ) → r < before.side → k < before.side
      → slice_index phase.enters r < length phase.steps
      → cell_at after r k ≡ settled_at M difference phase (cell_at before) r k
  pub waiting : (r k : ℕ) → length phase.steps ≤ slice_index phase.enters r
      → cell_at after r k ≡ cell_at before r k

-- all rows are those after the phase
pub record SettlesPhase {V : Type 0} (M : Monoid V) (difference : V → V → V) (phase : PhaseOf V)
    (before after : Grid V) : Type 0 where
  pub labels : KeepsLabels before after
  pub cells : (r k : ℕ) → r < before.side → k < before.side
      → cell_at after r k ≡ settled_at M difference phase (cell_at before) r k

-- a row is that after the phase, if it enters, and all others stay
pub record SettlesEnteredRow {V : Type 0} (M : Monoid V) (difference : V → V → V)
    (phase : PhaseOf V) (before after : Grid V) (row : ℕ) : Type 0 where
  pub labels : KeepsLabels before after
  pub entered : (k : ℕ) → k < before.side → slice_index phase.enters row < length phase.steps
      → cell_at after row k ≡ settled_at M difference phase (cell_at before) row k
  pub stays : (r k : ℕ) → (r ≢ row) ⊎ (length phase.steps ≤ slice_index phase.enters r)
      → cell_at after r k ≡ cell_at before r k

-- the cells of a row are those after a step, and all others stay
pub record StepsRow {V : Type 0} (M : Monoid V) (difference : V → V → V) (c : V) (entered : Bool)
    (staying : ℕ → Bool) (before after : Grid V) (row : ℕ) : Type 0 where
  pub labels : KeepsLabels before after
  pub cells : (k : ℕ) → k < before.side → cell_at after row k
      ≡ option_map (moved M difference entered (staying k) c) (cell_at before row k)
  pub others : (r k : ℕ) → r ≢ row → cell_at after r k ≡ cell_at before r k
