-- What a text is read as.
use Rattle.std.specs.Prelude.{◌≡◌, ℕ, true, ◌/◌, ◌%◌, List, [], ◌∷◌, length, map, Option, IfSome}
use Rattle.std.specs.Option.{option_map}
use Rattle.std.specs.List.{enumerate_from, filter_map}
use Rattle.asg_model.specs.declared.parts.Row.{Row}
use Rattle.asg_model.specs.declared.parts.Column.{Column}
use Rattle.asg_model.specs.declared.parts.Cost.{Cost}
use Rattle.asg_model.specs.declared.parts.Place.TheVariants.{All}
use Rattle.asg_model.specs.Problem.{Problem, problem_of}
use Rattle.asg_tokens.specs.declared.refusals.TextRefusal.{TextRefusal}
use Rattle.asg_tokens.specs.Faults.{Fault, fault_of}

-- a text spells an instance, or it is refused for a fault
pub data Reading : Type 0 where
  Spells : (X : Problem) → Reading
  Refuses : (fault : Fault) → Reading

-- the reading of a text with these faults, the earliest first: it is refused for the first of them,
-- or spells the instance where there is none
abbrev pub reading_with : List Fault → Problem → Reading
reading_with [] X = Spells X
reading_with (fault ∷ more) X = Refuses fault

-- an answer that refuses a text tells the fault for which its reading does; want of memory tells
-- nothing
abbrev pub TellsOf : Reading → TextRefusal → Type 0
TellsOf reading refusal = IfSome (fault_of refusal) (λ fault. reading ≡ Refuses fault)

-- the active row with an id
abbrev pub row_of : ℕ → Row
row_of id = record { id = id; active = true }

-- the open column with an id, for one row
abbrev pub column_of : ℕ → Column
column_of id = record { id = id; cap = 1; usable = true }

-- the cells of a table of so many columns that has these costs row by row, absent ones left out:
-- place k is that of row k / m and column k % m
unfoldable pub cells_of_rows : ℕ → List (Option Cost) → List ((ℕ × ℕ) × Cost)
cells_of_rows m costs =
    filter_map (λ entry. option_map (λ cost. ((entry.0 / m, entry.0 % m), cost)) entry.1)
    (enumerate_from 0 costs)

-- the instance whose rows and columns have these ids, all to be placed, and these costs row by row
unfoldable pub table_of : List ℕ → List ℕ → List (Option Cost) → Problem
table_of rows columns costs =
    problem_of (map row_of rows) (map column_of columns) (cells_of_rows (length columns) costs) All
