-- The instance of a formula.
use Rattle.std.specs.Prelude.{ℕ, ◌+◌, ◌*◌, ◌%◌, pos, true, List, map}
use Rattle.std.specs.List.{flat_map, range_with_len}
use Rattle.asg_model.specs.declared.parts.Column.{Column}
use Rattle.asg_model.specs.declared.parts.Cost.{Cost}
use Rattle.asg_model.specs.declared.parts.Place.TheVariants.{All}
use Rattle.asg_model.specs.declared.parts.Row.{Row}
use Rattle.asg_model.specs.Problem.{Problem, problem_of}

-- the greatest seed
abbrev pub most_seed : ℕ
most_seed = 1000000

-- the first part of the cost of the cell of row i and column j, which count from 1
abbrev pub formula : ℕ → ℕ → ℕ → ℕ
formula seed i j = (31 * i * i + 17 * i * j + 13 * j * j + seed * (i + j)) % 997

-- the active row with an id
abbrev pub row_of : ℕ → Row
row_of id = record { id = id; active = true }

-- the open column with an id, for one row
abbrev pub column_of : ℕ → Column
column_of id = record { id = id; cap = 1; usable = true }

-- the cell of the row at place r and the column at place c, which count from 0
abbrev pub cell_of : ℕ → ℕ → ℕ → (ℕ × ℕ) × Cost
cell_of seed r c = ((r, c), record { a = pos (formula seed (r + 1) (c + 1)); b = pos 0 })

-- the cells of so many rows and as many columns, row by row
unfoldable pub cells_of : ℕ → ℕ → List ((ℕ × ℕ) × Cost)
cells_of seed side =
    flat_map (λ r. map (cell_of seed r) (range_with_len 0 side)) (range_with_len 0 side)

-- the instance of the formula, of so many rows and as many columns, their ids from 1 on, with all
-- rows to be placed
abbrev pub generated_problem : ℕ → ℕ → Problem
generated_problem seed side =
    problem_of (map row_of (range_with_len 1 side)) (map column_of (range_with_len 1 side))
    (cells_of seed side) All
