use Rattle.std.specs.Prelude.{◌≡◌, ◌≢◌, ℕ, ℤ, pos, List, length, Option, Some, None, All, IfSome, slice_set, slice_index_or}
use Rattle.std.specs.List.Sorted.{IsStrictlySortedBy}
use Rattle.std.specs.Map.{keys_of}
use Rattle.asg_model.specs.declared.parts.Cost.{Cost}
use Rattle.asg_model.specs.declared.parts.Row.{Row}
use Rattle.asg_model.specs.declared.parts.Column.{Column}
use Rattle.asg_model.specs.declared.parts.Place.{Place}
use Rattle.asg_model.specs.declared.cell_store.CellStore.{CellStore}
use Rattle.asg_model.specs.declared.cell_store.CellStore.TheVariants.{Map, Listed, Table}
use Rattle.asg_model.specs.Problem.{Problem, problem_of}
use Rattle.asg_model.specs.Instances.{IsInstance, AreCellsOf, by_places}
use Rattle.asg_model.specs.Table.{absent, table_cells, IsTable}
use Rattle.asg_model.specs.ValueRange.{IsPartInRange}

-- the cells that stand in a map, in a list, or in a table with so many columns
abbrev pub cells_in : ℕ → CellStore → List ((ℕ × ℕ) × Cost)
cells_in columns (Map map) = map.entries
cells_in columns (Listed cells) = cells.items
cells_in columns (Table firsts seconds) = table_cells columns firsts.items seconds.items

-- a table has an entry for each of so many rows and columns
abbrev pub IsStoreOf : ℕ → ℕ → CellStore → Type 0
IsStoreOf rows columns (Map map) = Unit {0}
IsStoreOf rows columns (Listed cells) = Unit {0}
IsStoreOf rows columns (Table firsts seconds) = IsTable rows columns firsts.items seconds.items

-- the problem of these parts, its cells in a store
abbrev pub stored_problem : List Row → List Column → CellStore → Place → Problem
stored_problem rows columns store place =
    problem_of rows columns (cells_in (length columns) store) place

-- the parts are those of an instance, and the store is whole
pub record IsStored (rows : List Row) (columns : List Column) (store : CellStore) (place : Place)
    : Type 0 where
  pub instance : IsInstance (stored_problem rows columns store place)
  pub whole : IsStoreOf (length rows) (length columns) store

-- the copy has the same cells, and is whole where the store is
pub record IsCopyOf (store copy : CellStore) : Type 0 where
  pub cells : (columns : ℕ) → cells_in columns copy ≡ cells_in columns store
  pub whole : (rows columns : ℕ) → IsStoreOf rows columns store → IsStoreOf rows columns copy

-- a store of cells of so many rows and columns: a table is whole, and the cells are those of an
-- instance
pub record IsCellStore (rows columns : ℕ) (store : CellStore) : Type 0 where
  pub whole : IsStoreOf rows columns store
  pub cells : AreCellsOf rows columns (cells_in columns store)
  pub ascend : IsStrictlySortedBy by_places (keys_of (cells_in columns store))

-- what stands in a table for a cell that has this cost, or none
abbrev pub slot_of : Option Cost → ℤ
slot_of None = absent
slot_of (Some cost) = cost.a

-- the cell at an index of a table has this cost, or none, and all other cells are as before
pub record PutsInTable (k : ℕ) (cell : Option Cost)
    (firsts seconds firsts_after seconds_after : List ℤ) : Type 0 where
  pub firsts_are : firsts_after ≡ slice_set firsts k (slot_of cell)
  pub second : IfSome cell (λ cost. slice_index_or seconds_after k (pos 0) ≡ cost.b)
  pub others : (i : ℕ) → i ≢ k
      → slice_index_or seconds_after i (pos 0) ≡ slice_index_or seconds i (pos 0)
  pub in_range : All IsPartInRange seconds → All IsPartInRange seconds_after
