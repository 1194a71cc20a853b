-- The least cells of columns, over the rows that have entered, from one mark of a phase to the
-- next.
use Rattle.std.specs.Prelude.{◌≡◌, ◌⊎◌, ℕ, ◌<◌, ◌≤◌, if◌then◌else◌, nat_lt, min, Bool, false, List, length, Option, Some, None, slice_index, slice_index_or}
use Rattle.asg_order.specs.Monoid.{Monoid, IsValue, IsLe}
use Rattle.asg_proof.specs.Phases.{PhaseOf}
use Rattle.asg_square.specs.Grid.{Grid, cell_at}
use Rattle.asg_admit.specs.Admission.{AllowsRows}
use Rattle.asg_admit.specs.Settled.{step_of, between}

-- no mark stands between two steps
abbrev pub HasNoneBetween : List ℕ → ℕ → ℕ → Type 0
HasNoneBetween marks from to =
    (i : ℕ) → i < length marks → (slice_index marks i ≤ from) ⊎ (to ≤ slice_index marks i)

-- the place at which the least cell of a column is held: its own, or one that it shares with those
-- that leave at the same step, where there are fewer steps than columns
abbrev pub place_at : ℕ → ℕ → ℕ → ℕ → ℕ
place_at side end leave k = if nat_lt end side then min leave end else k

-- the place of each column
abbrev pub place_of : ℕ → List ℕ → ℕ → ℕ
place_of end leaves k = place_at (length leaves) end (slice_index leaves k) k

-- the value that is held at a place, if there is one
abbrev pub held_at : {V : Type 0} → Monoid V → List V → List Bool → ℕ → Option V
held_at M room held s =
    if slice_index_or held s false then Some (slice_index_or room s M.unit) else None

-- the lesser of two values, either of which may be missing
abbrev pub lesser_of : {V : Type 0} → Monoid V → Option V → Option V → Option V
lesser_of M None other = other
lesser_of M (Some x) None = Some x
lesser_of M (Some x) (Some y) = Some (if M.is_le x y then x else y)

-- a value is there, and it is at most another
abbrev pub HasAtMost : {V : Type 0} → Monoid V → Option V → V → Type 0
HasAtMost {V} M least x = (y : V) × (least ≡ Some y) × IsLe M y x

-- each value that is there is one of the monoid
abbrev pub AreHeldValues : {V : Type 0} → Monoid V → (ℕ → Option V) → Type 0
AreHeldValues {V} M held = (s : ℕ) (y : V) → held s ≡ Some y → IsValue M y

-- the first so many cells of a row were merged into what is held at the places of their columns
pub record MergesRow {V : Type 0} (M : Monoid V) (row : ℕ → Option V) (place : ℕ → ℕ) (n : ℕ)
    (before after : ℕ → Option V) : Type 0 where
  pub kept : (s : ℕ) (y : V) → before s ≡ Some y → HasAtMost M (after s) y
  pub under : (k : ℕ) (x : V) → k < n → row k ≡ Some x → HasAtMost M (after (place k)) x
  pub reached : (s : ℕ) (y : V) → after s ≡ Some y → (before s ≡ Some y)
      ⊎ ((k : ℕ) × (k < n) × (place k ≡ s) × (row k ≡ Some y))

-- so were the rows that enter at a step, of the first so many
pub record MergesRows {V : Type 0} (M : Monoid V) (Q : Grid V) (enters : List ℕ) (from : ℕ)
    (place : ℕ → ℕ) (n : ℕ) (before after : ℕ → Option V) : Type 0 where
  pub kept : (s : ℕ) (y : V) → before s ≡ Some y → HasAtMost M (after s) y
  pub under : (r k : ℕ) (x : V) → r < n → k < Q.side → slice_index enters r ≡ from
      → cell_at Q r k ≡ Some x → HasAtMost M (after (place k)) x
  pub reached : (s : ℕ) (y : V) → after s ≡ Some y → (before s ≡ Some y)
      ⊎ ((r : ℕ) × (k : ℕ) × (r < n) × (k < Q.side) × (slice_index enters r ≡ from)
      × (place k ≡ s) × (cell_at Q r k ≡ Some y))

-- the least of the cells of the first so many columns that stay after a step
pub record IsLeastStaying {V : Type 0} (M : Monoid V) (cells : ℕ → Option V) (leaves : List ℕ)
    (from n : ℕ) (least : Option V) : Type 0 where
  pub under : (k : ℕ) (x : V) → k < n → from < slice_index leaves k → cells k ≡ Some x
      → HasAtMost M least x
  pub reached : (y : V) → least ≡ Some y
      → (k : ℕ) × (k < n) × (from < slice_index leaves k) × (cells k ≡ Some y)

-- up to a step all cells allow the phase, and for each column that stays is held the least of its
-- cells, as they are by then, in the rows that enter before a step
pub record HoldsLeast {V : Type 0} (M : Monoid V) (difference : V → V → V) (phase : PhaseOf V)
    (Q : Grid V) (place : ℕ → ℕ) (from upto : ℕ) (held : ℕ → Option V) : Type 0 where
  pub values : AreHeldValues M held
  pub allowed : (r k t : ℕ) (x : V) → r < Q.side → k < Q.side → t < from
      → slice_index phase.enters r ≤ t → t < slice_index phase.leaves k → cell_at Q r k ≡ Some x
      → IsLe M (step_of M phase.steps t)
      (difference x (between M (step_of M phase.steps) (slice_index phase.enters r) t))
  pub under : (r k : ℕ) (x : V) → r < Q.side → k < Q.side → slice_index phase.enters r < upto
      → from < slice_index phase.leaves k → cell_at Q r k ≡ Some x → HasAtMost M (held (place k))
      (difference x (between M (step_of M phase.steps) (slice_index phase.enters r) from))
  pub awaits : AllowsRows M difference phase Q → (k : ℕ) (y : V) → k < Q.side
      → from < slice_index phase.leaves k → held (place k) ≡ Some y → (t : ℕ) → from ≤ t
      → t < slice_index phase.leaves k → t < length phase.steps
      → IsLe M (step_of M phase.steps t) (difference y (between M (step_of M phase.steps) from t))
