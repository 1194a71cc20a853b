-- Dual variables of a square of sums.
use Rattle.std.specs.Prelude.{◌≡◌, ℕ, ◌+◌, ◌<◌, ◌≤◌, Some, IsSome, List, length, slice_index}
use Rattle.asg_square.specs.Grid.{Grid, cell_at, IsPerm}

-- a column for each row, by how much each row may fall, and by how much each column may rise
pub record DualLists : Type 0 where
  pub columns : List ℕ
  pub falls : List ℕ
  pub rises : List ℕ

-- the cell with its column's rise is at least its row's fall
abbrev pub IsAbove : DualLists → ℕ → ℕ → ℕ → Type 0
IsAbove duals r c x = slice_index duals.falls r ≤ x + slice_index duals.rises c

-- the value of a column with its rise is at least the fall
abbrev pub Reaches : List ℕ → List ℕ → ℕ → ℕ → Type 0
Reaches values rises fall c = fall ≤ slice_index values c + slice_index rises c

-- the columns are a perfect assignment of the square, each present cell is at least 0 once all rows
-- have fallen and all columns have risen, and each cell of the assignment is 0 then
pub record AreTight (square : Grid ℕ) (duals : DualLists) : Type 0 where
  pub over_rows : length duals.falls ≡ square.side
  pub over_columns : length duals.rises ≡ square.side
  pub assigned : IsPerm square duals.columns
  pub above : (r c x : ℕ) → r < square.side → cell_at square r c ≡ Some x → IsAbove duals r c x
  pub tight : (r x : ℕ) → r < square.side → cell_at square r (slice_index duals.columns r) ≡ Some x
      → slice_index duals.falls r ≡ x + slice_index duals.rises (slice_index duals.columns r)

-- a row has the column that the rows of columns say it has, its cell there is 0, and none is below
-- 0, once all rows have fallen and all columns have risen
pub record IsRowTight (square : Grid ℕ) (duals : DualLists) (row_of : List ℕ) (r : ℕ) : Type 0 where
  pub own : slice_index row_of (slice_index duals.columns r) ≡ r
  pub present : IsSome (cell_at square r (slice_index duals.columns r))
  pub level : (x : ℕ) → cell_at square r (slice_index duals.columns r) ≡ Some x
      → slice_index duals.falls r ≡ x + slice_index duals.rises (slice_index duals.columns r)
  pub above : (c x : ℕ) → cell_at square r c ≡ Some x → IsAbove duals r c x
