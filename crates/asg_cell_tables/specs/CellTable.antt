-- Tables of optional values.
use Rattle.std.specs.Prelude.{◌≡◌, ℕ, ◌*◌, ◌+◌, ◌/◌, ◌%◌, ◌≤◌, if◌then◌else◌, nat_lt, Bool, Option, None, IsSome, is_some, List, length, map, slice_get, slice_index_or}
use Rattle.std.specs.List.{range_with_len}
use Rattle.asg_bit_rows.specs.BitTable.{BitTable, has_bit, is_bit_set}
use Rattle.asg_model.specs.Limits.{most_side}

-- a side, and the cells of a square table row by row
pub record CellTable (V : Type 0) : Type 0 where
  pub side : ℕ
  pub cells : List (Option V)

-- the cell at a row and a column, none outside the side
abbrev pub entry_at : {V : Type 0} → ℕ → List (Option V) → ℕ → ℕ → Option V
entry_at side cells r c = if nat_lt c side then slice_index_or cells (r * side + c) None else None

-- the cells of a table, by row and column
abbrev pub table_at : {V : Type 0} → CellTable V → ℕ → ℕ → Option V
table_at T = entry_at T.side T.cells

-- which of them are present
abbrev pub is_present_at : {V : Type 0} → CellTable V → ℕ → ℕ → Bool
is_present_at T r c = is_some (entry_at T.side T.cells r c)

-- as many cells as the side has places
pub record IsCellTable {V : Type 0} (T : CellTable V) : Type 0 where
  pub few : T.side ≤ most_side
  pub count : length T.cells ≡ T.side * T.side

-- the cell at a place, where values stand row by row and bits say which cells are present
abbrev pub stored_cell : {V : Type 0} → ℕ → List V → BitTable → ℕ → Option V
stored_cell side values present k = if has_bit present (k / side) (k % side) then slice_get values k else None

-- all these cells
abbrev pub stored_cells : {V : Type 0} → ℕ → List V → BitTable → List (Option V)
stored_cells side values present = map (stored_cell side values present) (range_with_len 0 (side * side))

-- as many values and bits as cells
pub record IsStored {V : Type 0} (side : ℕ) (values : List V) (present : BitTable) : Type 0 where
  pub few : side ≤ most_side
  pub count : length values ≡ side * side
  pub rows : present.rows ≡ side
  pub columns : present.columns ≡ side

-- the values of a row: each cell that is present has its value at its column
pub record AreValuesOf {V : Type 0} (row : ℕ → Option V) (side : ℕ) (values : List V) : Type 0 where
  pub count : length values ≡ side
  pub each : (c : ℕ) → IsSome (row c) → slice_get values c ≡ row c

-- the values of all cells, row by row: each cell that is present has its value at its place
pub record AreAllValuesOf {V : Type 0} (cells : List (Option V)) (values : List V) : Type 0 where
  pub count : length values ≡ length cells
  pub each : (k : ℕ) → IsSome (slice_index_or cells k None) → slice_get values k ≡ slice_index_or cells k None

-- the cell at a place of some cells that stand side by side as values, and as a word whose bits say
-- which are present
abbrev pub piece_cell : {V : Type 0} → List V → ℕ → ℕ → Option V
piece_cell values word k = if is_bit_set word k then slice_get values k else None
