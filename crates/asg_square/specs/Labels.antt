-- The rows and the columns of the square of an instance.
use Rattle.std.specs.Prelude.{ℕ, if◌then◌else◌, Option, Some, None, List, replicate, slice_get, sum_by, take}
use Rattle.std.specs.List.{enumerate_from, flat_map}
use Rattle.asg_model.specs.declared.parts.Column.{Column}
use Rattle.asg_model.specs.Problem.{Problem}
use Rattle.asg_model.specs.Counts.{is_counted}

-- the place of a column, once for each of its copies
abbrev pub copies_of : ℕ × Column → List ℕ
copies_of column = replicate column.1.cap column.0

-- the places of the columns that the copies are copies of
abbrev pub copies : Problem → List ℕ
copies X = flat_map copies_of (enumerate_from 0 X.columns)

-- where the copies of a column begin
abbrev pub first_copy : Problem → ℕ → ℕ
first_copy X d = sum_by (λ column. column.cap) (take d X.columns)

-- the column that a square column is a copy of
abbrev pub column_label : Problem → ℕ → Option ℕ
column_label X c = slice_get (copies X) c

-- the row that a square row stands for, if it is counted
abbrev pub row_label : Problem → ℕ → Option ℕ
row_label X r = if is_counted X r then Some r else None
