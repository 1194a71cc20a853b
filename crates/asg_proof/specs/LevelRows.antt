-- How many rows the solver of the lexicographic objective takes.
use Rattle.std.specs.Prelude.{ℕ, ◌≤◌, length}
use Rattle.asg_model.specs.Problem.{Problem}

-- the greatest number of rows
abbrev pub most_level_rows : ℕ
most_level_rows = 200

-- at most 200 rows
abbrev pub HasFewRows : Problem → Type 0
HasFewRows X = length X.rows ≤ most_level_rows
