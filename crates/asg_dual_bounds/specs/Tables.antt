-- Tables of the numbers of instances.
use Rattle.std.specs.Prelude.{◌≡◌, ℕ, ◌+◌, ◌*◌, ◌<◌, ◌≤◌, ◌==◌, nat_lt, if◌then◌else◌, Option, Some, None, List, length, slice_index, slice_index_or, All}
use Rattle.std.specs.Option.{unwrap_or}
use Rattle.asg_model.specs.declared.objectives.Objective.{Objective}
use Rattle.asg_model.specs.Limits.{most_rows, most_columns}
use Rattle.asg_model.specs.Problem.{Problem}
use Rattle.asg_dual_bounds.specs.Numbers.{number_at}

-- what stands in a table where there is no number: more than any number
abbrev pub absent : ℕ
absent = 2147483648

-- a table: so many rows and columns, and what stands at its places, row by row
pub record Table : Type 0 where
  pub rows : ℕ
  pub columns : ℕ
  pub slots : List ℕ

-- the number that stands at a place
abbrev pub number_of : ℕ → Option ℕ
number_of slot = if slot == absent then None else Some slot

-- the number of row r and column c
abbrev pub number_in : Table → ℕ → ℕ → Option ℕ
number_in table r c =
    if nat_lt c table.columns
    then number_of (slice_index_or table.slots (r * table.columns + c) absent)
    else None

-- a table that is whole, with numbers below 2^31
pub record IsTable (table : Table) : Type 0 where
  pub few_rows : table.rows ≤ most_rows
  pub few_columns : table.columns ≤ most_columns
  pub whole : length table.slots ≡ table.rows * table.columns
  pub low : All (λ slot. slot ≤ absent) table.slots

-- what stands in row r of a table
pub record IsRowOf (table : Table) (r : ℕ) (slots : List ℕ) : Type 0 where
  pub whole : length slots ≡ table.columns
  pub each : (c : ℕ) → c < table.columns → number_in table r c ≡ number_of (slice_index slots c)
  pub low : (c : ℕ) → c < table.columns → slice_index slots c ≤ absent

-- a table has the numbers of an instance
pub record IsTableOf (objective : Objective) (X : Problem) (table : Table) : Type 0 where
  pub rows : table.rows ≡ length X.rows
  pub columns : table.columns ≡ length X.columns
  pub numbers : (r c : ℕ) → number_at objective X r c ≡ number_in table r c

-- the number of row r in the column that a list gives it, 0 where there is none
abbrev pub table_number : Table → List ℕ → ℕ → ℕ
table_number table columns r = unwrap_or (number_in table r (slice_index columns r)) 0
