use Rattle.std.specs.Prelude.{ℕ, ◌≤◌, ◌<◌, ◌≢◌, ◌^◌, List, length, All, AllPairs, unsigned_abs}
use Rattle.std.specs.List.Sorted.{IsStrictlySortedBy}
use Rattle.std.specs.Map.{keys_of}
use Rattle.std.specs.Ordering.{nat_cmp, ordering_then}
use Rattle.std.specs.declared.cmp.Ordering.{Ordering}
use Rattle.asg_model.specs.declared.parts.Cost.{Cost}
use Rattle.asg_model.specs.declared.parts.Place.{Place}
use Rattle.asg_model.specs.declared.parts.Place.TheVariants.{All as PlaceAll, Exactly}
use Rattle.asg_model.specs.Limits.{most_cost, most_rows, most_columns, most_capacity}
use Rattle.asg_model.specs.Problem.{Problem}
use Rattle.asg_model.specs.Counts.{active_count, total_capacity}

-- a cost that an instance may have: each part lies between -10^9 and 10^9
pub record IsCostInRange (cost : Cost) : Type 0 where
  pub a_in_range : unsigned_abs cost.a ≤ most_cost
  pub b_in_range : unsigned_abs cost.b ≤ most_cost

-- the place rule asks for at least one row, and for no more than there are rows or than the columns
-- can hold
abbrev pub IsPlaceInRange : Problem → Place → Type 0
IsPlaceInRange X PlaceAll = Unit {0}
IsPlaceInRange X (Exactly k) = (1 ≤ k) × (k ≤ length X.rows) × (k ≤ total_capacity X)

-- cells of so many rows and columns, with costs in range
abbrev pub AreCellsOf : ℕ → ℕ → List ((ℕ × ℕ) × Cost) → Type 0
AreCellsOf rows columns cells =
    All (λ cell. ((cell.0.0 < rows) × (cell.0.1 < columns)) × IsCostInRange cell.1) cells

-- the order of cells: by row, then by column
abbrev pub by_places : ℕ × ℕ → ℕ × ℕ → Ordering
by_places x y = ordering_then (nat_cmp x.0 y.0) (nat_cmp x.1 y.1)

-- well-formed parts: 1 to 1,000 rows with an active one and at most 1,000 columns, their ids
-- different, capacities 1 to 1,000, each cell of a row and a column that are there, costs in range,
-- and a place rule in range
pub record IsWellFormed (X : Problem) : Type 0 where
  pub some_active : 1 ≤ active_count X
  pub few_rows : length X.rows ≤ most_rows
  pub few_columns : length X.columns ≤ most_columns
  pub rows_differ : AllPairs (λ x y. x.id ≢ y.id) X.rows
  pub columns_differ : AllPairs (λ x y. x.id ≢ y.id) X.columns
  pub capacities : All (λ column. (1 ≤ column.cap) × (column.cap ≤ most_capacity)) X.columns
  pub cells_within :
      All (λ cell. (cell.0.0 < length X.rows) × (cell.0.1 < length X.columns)) X.cells
  pub costs : All (λ cell. IsCostInRange cell.1) X.cells
  pub place_in_range : IsPlaceInRange X X.place

-- what an instance keeps: well-formed parts, ids below 2^32, and cells in order, none twice
pub record IsInstance (X : Problem) : Type 0 where
  pub well_formed : IsWellFormed X
  pub row_ids : All (λ row. row.id < 2 ^ 32) X.rows
  pub column_ids : All (λ column. column.id < 2 ^ 32) X.columns
  pub cells_ascend : IsStrictlySortedBy by_places (keys_of X.cells)
