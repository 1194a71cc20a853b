-- A square of sums that is kept as it was, with a dual variable for each row and each column.
use Rattle.std.specs.Prelude.{◌≡◌, ◌≢◌, ◌⊎◌, ℕ, ◌+◌, ◌-◌, ◌*◌, ◌/◌, ◌%◌, ◌<◌, ◌≤◌, List, length, take, map, min, Option, Some, None, slice_index, slice_index_or}
use Rattle.std.specs.List.{range_with_len, sum}
use Rattle.std.specs.Option.{option_map}
use Rattle.asg_square.specs.Grid.{Grid, IsGrid, cell_at}
use Rattle.asg_admit.specs.declared.reduced.Reduced.{Reduced}
use Rattle.asg_admit.specs.Reduced.{KeepsLabels}

-- a number with the dual variable of its row more and that of its column less
abbrev pub dual_value : ℕ → ℕ → ℕ → ℕ
dual_value row column x = (x + row) - column

-- the cell at a place, by the dual variables of its row and its column
abbrev pub dual_cell : Grid ℕ → List ℕ → List ℕ → ℕ → Option ℕ
dual_cell Q rows columns place =
    option_map
    (dual_value (slice_index rows (place / Q.side)) (slice_index columns (place % Q.side)))
    (slice_index_or Q.cells place None)

-- the square of these cells
abbrev pub dual_grid : Grid ℕ → List ℕ → List ℕ → Grid ℕ
dual_grid Q rows columns =
    record Q { cells = map (dual_cell Q rows columns) (range_with_len 0 (Q.side * Q.side)) }

-- the reduced square of these cells
abbrev pub dual_reduced : Grid ℕ → List ℕ → List ℕ → ℕ → Reduced ℕ
dual_reduced Q rows columns index = record { now = dual_grid Q rows columns; index = index }

-- no present cell of the first so many rows is greater, and it is one of the square's or 0
pub record IsGreatest (n : ℕ) (square : ℕ → ℕ → Option ℕ) (greatest : ℕ) : Type 0 where
  pub above : (r k x : ℕ) → r < n → square r k ≡ Some x → x ≤ greatest
  pub reached : (greatest ≡ 0) ⊎ ((r : ℕ) × (k : ℕ) × (square r k ≡ Some greatest))

-- no present cell of a row from one column on and before another is greater, nor is another number,
-- and it is that one or one of the row's
pub record IsGreaterOf (from to : ℕ) (row : ℕ → Option ℕ) (other greatest : ℕ) : Type 0 where
  pub above : (k x : ℕ) → from ≤ k → k < to → row k ≡ Some x → x ≤ greatest
  pub grows : other ≤ greatest
  pub reached : (greatest ≡ other) ⊎ ((k : ℕ) × (row k ≡ Some greatest))

-- what dual variables keep: there is one for each row and column, none is greater than the index,
-- that of a column is at most each present cell with that of the row more, no cell passes the
-- greatest number, and no number the bound
pub record AreDuals (bound : ℕ) (Q : Grid ℕ) (rows columns : List ℕ) (index greatest : ℕ) : Type 0 where
  pub grid : IsGrid Q
  pub row_count : length rows ≡ Q.side
  pub column_count : length columns ≡ Q.side
  pub rows_within : (r : ℕ) → r < Q.side → slice_index rows r ≤ index
  pub columns_within : (k : ℕ) → k < Q.side → slice_index columns k ≤ index
  pub cells : (r k x : ℕ) → cell_at Q r k ≡ Some x → slice_index columns k ≤ x + slice_index rows r
  pub above : (r k x : ℕ) → r < Q.side → cell_at Q r k ≡ Some x → x ≤ greatest
  pub few_index : index ≤ bound
  pub few_greatest : greatest ≤ bound

-- no sum reaches the top while steps are applied that add up to this: neither the index nor a
-- present cell does with the sum more
pub record HasRoom (top : ℕ) (reduced : Reduced ℕ) (sum : ℕ) : Type 0 where
  pub index : reduced.index + sum < top
  pub cells : (r k x : ℕ) → cell_at reduced.now r k ≡ Some x → x + sum < top

-- the sum of the first so many numbers
abbrev pub sum_before : List ℕ → ℕ → ℕ
sum_before numbers n = sum (take n numbers)

-- at each place the sum of the steps before it
abbrev pub AreSums : List ℕ → List ℕ → Type 0
AreSums steps sums = (t : ℕ) → t ≤ length steps → slice_index sums t ≡ sum_before steps t

-- each dual variable became greater by the sum of the steps before its mark
pub record RaisesDuals (steps marks before after : List ℕ) : Type 0 where
  pub count : length after ≡ length before
  pub each : (i : ℕ) → i < length before
      → slice_index after i ≡ slice_index before i + sum_before steps (min (slice_index marks i) (length steps))

-- what is left below a width, as 2^64 or 2^128, of a number with one more and one less
abbrev pub dual_bits : ℕ → ℕ → ℕ → ℕ → ℕ
dual_bits width row column x = ((x + row) % width + (width - column)) % width

-- the values of a row by the dual variables of the row and of the columns
abbrev pub dual_values : ℕ → List ℕ → List ℕ → ℕ → List ℕ
dual_values width values columns row =
    map (λ k. dual_bits width row (slice_index columns k) (slice_index values k)) (range_with_len 0 (length values))

-- the cell, if it is present, is a number with these dual variables, and stays below a width on the
-- way
abbrev pub FitsDuals : ℕ → ℕ → ℕ → Option ℕ → Type 0
FitsDuals width row column cell =
    (x : ℕ) → cell ≡ Some x → (column ≤ x + row) × (x + row < width)

-- the cells of a row, told as numbers, have the dual variable of the row more and those of the
-- columns less, and all others stay
pub record WritesDuals {V : Type 0} (present : Option V → Option ℕ) (row : ℕ) (columns : List ℕ) (before after : Grid V) (r : ℕ) : Type 0 where
  pub labels : KeepsLabels before after
  pub cells : (k : ℕ) → k < before.side
      → present (cell_at after r k) ≡ option_map (dual_value row (slice_index columns k)) (present (cell_at before r k))
  pub others : (i k : ℕ) → i ≢ r → cell_at after i k ≡ cell_at before i k

-- the value at a place is, with so much more, at least the dual variable there
abbrev pub FitsAt : List ℕ → List ℕ → ℕ → ℕ → Type 0
FitsAt values columns raise k = slice_index columns k ≤ slice_index values k + raise

-- each present cell of a row is, with so much more, at least the dual variable of its column
abbrev pub FitCells : ℕ → (ℕ → Option ℕ) → ℕ → List ℕ → Type 0
FitCells side row raise columns =
    (k x : ℕ) → k < side → row k ≡ Some x → slice_index columns k ≤ x + raise

-- each present cell of a row that enters at a step is, with the dual variable of the row and the
-- steps before that, at least the dual variable of its column; of a row that never enters nothing
-- is asked
abbrev pub FitsRow : ℕ → (ℕ → Option ℕ) → ℕ → List ℕ → List ℕ → ℕ → Type 0
FitsRow side row dual columns steps enter =
    enter < length steps → FitCells side row (dual + sum_before steps enter) columns

-- each row does so
abbrev pub FitsRows : ℕ → (ℕ → ℕ → Option ℕ) → List ℕ → List ℕ → List ℕ → List ℕ → Type 0
FitsRows side square rows columns steps enters =
    (r : ℕ) → r < side → FitsRow side (square r) (slice_index rows r) columns steps (slice_index enters r)
