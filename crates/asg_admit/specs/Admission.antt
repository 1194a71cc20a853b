-- What a phase asks of a square.
use Rattle.std.specs.Prelude.{◌≡◌, ℕ, ◌<◌, ◌+◌, ◌/◌, ◌%◌, ◌==◌, if◌then◌else◌, Bool, List, length, All, Option, Some, None, slice_get, slice_index}
use Rattle.asg_order.specs.Monoid.{Monoid, IsValue}
use Rattle.asg_proof.specs.Phases.{PhaseOf, entered_at, staying_at}
use Rattle.asg_proof.specs.Steps.{count_below}
use Rattle.asg_bit_rows.specs.BitTable.{is_bit_set}
use Rattle.asg_square.specs.Grid.{Grid, cell_at}
use Rattle.asg_admit.specs.Settled.{AllowsSteps}

-- at each of so many steps the rows that have entered and the columns that stay are one more than
-- the side
abbrev pub AreCounted : List ℕ → List ℕ → ℕ → Type 0
AreCounted enters leaves n =
    (t : ℕ) → t < n → count_below (entered_at enters t) (length enters)
    + count_below (staying_at leaves t) (length leaves) ≡ length enters + 1

-- the lists of a phase are over the rows and the columns of this side, each step is a value, and at
-- each step the rows that have entered and the columns that stay are one more than the side
pub record IsPhaseOver {V : Type 0} (M : Monoid V) (side : ℕ) (phase : PhaseOf V) : Type 0 where
  pub rows : length phase.enters ≡ side
  pub columns : length phase.leaves ≡ side
  pub values : All (IsValue M) phase.steps
  pub counted : AreCounted phase.enters phase.leaves (length phase.steps)

-- the mark at a place is this one
abbrev pub has_mark : List ℕ → ℕ → ℕ → Bool
has_mark marks t i = slice_index marks i == t

-- at each of so many steps from one on as many rows enter as columns leave
abbrev pub AreBalanced : List ℕ → List ℕ → ℕ → ℕ → Type 0
AreBalanced enters leaves from n =
    (i : ℕ) → i < n → count_below (has_mark enters (from + i)) (length enters)
    ≡ count_below (has_mark leaves (from + i)) (length leaves)

-- a mark stands at the column of a row of words
abbrev pub is_marked : List ℕ → ℕ → Bool
is_marked words k = is_bit_set (slice_index words (k / 64)) (k % 64)

-- the cell at a column of a row that stands as its values and as words whose bits say which are
-- present
abbrev pub cell_in_row : {V : Type 0} → List V → List ℕ → ℕ → Option V
cell_in_row values words k =
    if is_marked words k then slice_get values k else None

-- the cell, if it is present, allows the steps
abbrev pub AllowsAt : {V : Type 0} → Monoid V → (V → V → V) → List V → ℕ → ℕ → Option V → Type 0
AllowsAt {V} M difference steps enter leave cell =
    (x : V) → cell ≡ Some x → AllowsSteps M difference steps enter leave x

-- each present cell of a row that enters at this step allows the steps
abbrev pub AllowsRow : {V : Type 0} → Monoid V → (V → V → V) → List V → ℕ → List ℕ → Grid V → ℕ → Type 0
AllowsRow M difference steps enter leaves Q row =
    (k : ℕ) → k < Q.side → AllowsAt M difference steps enter (slice_index leaves k) (cell_at Q row k)

-- each present cell allows the steps
abbrev pub AllowsRows : {V : Type 0} → Monoid V → (V → V → V) → PhaseOf V → Grid V → Type 0
AllowsRows M difference phase Q =
    (r : ℕ) → r < Q.side
    → AllowsRow M difference phase.steps (slice_index phase.enters r) phase.leaves Q r
