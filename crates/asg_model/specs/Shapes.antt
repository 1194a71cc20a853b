use Rattle.std.specs.Prelude.{◌≡◌, ◌⊎◌, ℕ, ◌+◌, ◌-◌, ◌<◌, ◌&&◌, nat_le, max, Bool, true, length, map}
use Rattle.asg_model.specs.declared.parts.Column.{Column}
use Rattle.asg_model.specs.declared.parts.Place.{Place}
use Rattle.asg_model.specs.declared.parts.Place.TheVariants.{All, Exactly}
use Rattle.asg_model.specs.Counts.{total_capacity}
use Rattle.asg_model.specs.Problem.{Problem, problem_of}

-- the side of the square, for so many rows and so large a total capacity
abbrev pub side_by : Place → ℕ → ℕ → ℕ
side_by All rows capacity = max rows capacity
side_by (Exactly k) rows capacity = capacity + (rows - k)

-- the side of the square of an instance, to whose perfect assignments its valid choices belong
abbrev pub square_side : Problem → ℕ
square_side X = side_by X.place (length X.rows) (total_capacity X)

-- the column with this capacity
abbrev pub with_capacity : ℕ → Column → Column
with_capacity each column = record column { cap = each }

-- the instance with this place rule, and this capacity of each column
abbrev pub shaped : Problem → Place → ℕ → Problem
shaped X place each = problem_of X.rows (map (with_capacity each) X.columns) X.cells place

-- the place rule asks for no row, for more than there are, or for more than the columns hold
abbrev pub IsPlaceOutOfRange : Problem → Place → Type 0
IsPlaceOutOfRange X All = ⊥
IsPlaceOutOfRange X (Exactly k) = (k ≡ 0) ⊎ ((length X.rows < k) ⊎ (total_capacity X < k))

-- the place rule asks for a number of rows that so many rows and so large a total capacity allow
abbrev pub is_range_of : Place → ℕ → ℕ → Bool
is_range_of All rows capacity = true
is_range_of (Exactly k) rows capacity = nat_le 1 k && nat_le k rows && nat_le k capacity
