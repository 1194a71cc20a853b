use Rattle.std.specs.Prelude.{ℕ, List}
use Rattle.asg_model.specs.declared.parts.Row.{Row}
use Rattle.asg_model.specs.declared.parts.Column.{Column}
use Rattle.asg_model.specs.declared.parts.Cost.{Cost}
use Rattle.asg_model.specs.declared.parts.Place.{Place}

-- what contracts see of an instance: its rows, its columns, the costs of its cells by row place and
-- column place, and its place rule
pub record Problem : Type 0 where
  pub rows : List Row
  pub columns : List Column
  pub cells : List ((ℕ × ℕ) × Cost)
  pub place : Place

-- the problem of these parts
abbrev pub problem_of : List Row → List Column → List ((ℕ × ℕ) × Cost) → Place → Problem
problem_of rows columns cells place =
    record { rows = rows; columns = columns; cells = cells; place = place }
