-- Costs by the places of their cells in a table: words of what makes it, on which
-- `generated_problem` doesn't stand.
use Rattle.std.specs.Prelude.{ℕ, ◌+◌, ◌/◌, ◌%◌}
use Rattle.asg_text.specs.Formula.{formula}

-- the first part of the cost at a place of a table of so many columns, row by row
abbrev pub cost_of_place : ℕ → ℕ → ℕ → ℕ
cost_of_place seed side k = formula seed (k / side + 1) (k % side + 1)
