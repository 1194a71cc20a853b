-- Lists of cells, by the places of their row and column.
use Rattle.std.specs.Prelude.{◌≡◌, ℕ, ◌<◌, ℤ, Some, List, length, take, drop, All}
use Rattle.asg_model.specs.declared.parts.Cost.{Cost}
use Rattle.asg_model.specs.Instances.{IsCostInRange}
use Rattle.asg_model.specs.Live.{cost_at}
use Rattle.asg_model.specs.Problem.{Problem}
use Rattle.asg_model.specs.Table.{table_cells, IsTable}

-- the cells of the row at place r of a list: a part of the list, beside which it has no cells of the
-- row
pub record IsRowOf (cells : List ((ℕ × ℕ) × Cost)) (r : ℕ) (row : List ((ℕ × ℕ) × Cost)) : Type 0 where
  pub first : ℕ
  pub count : ℕ
  pub part : row ≡ take count (drop first cells)
  pub of_row : All (λ cell. cell.0.0 ≡ r) row
  pub costs : (c : ℕ) → cost_at cells r c ≡ cost_at row r c

-- a whole table of so many rows and columns has these cells
pub record IsTableOf (rows columns : ℕ) (cells : List ((ℕ × ℕ) × Cost)) (firsts seconds : List ℤ) : Type 0 where
  pub table : IsTable rows columns firsts seconds
  pub cells_are : table_cells columns firsts seconds ≡ cells

-- the cells of the row at place r of an instance, each once
pub record AreRowCells (X : Problem) (r : ℕ) (cells : List ((ℕ × ℕ) × Cost)) : Type 0 where
  pub there : r < length X.rows
  pub of_row : All (λ cell. cell.0.0 ≡ r) cells
  pub within : All (λ cell. cell.0.1 < length X.columns) cells
  pub in_range : All (λ cell. IsCostInRange cell.1) cells
  pub each : All (λ cell. cost_at X.cells r cell.0.1 ≡ Some cell.1) cells
  pub costs : (c : ℕ) → cost_at X.cells r c ≡ cost_at cells r c
