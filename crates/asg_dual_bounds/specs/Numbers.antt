-- The costs of an instance as numbers of which a lesser sum is better, and the answers of a plain
-- instance: the columns of its rows.
use Rattle.std.specs.Prelude.{◌≡◌, ◌≢◌, ℕ, ◌<◌, Option, Some, IsSome, unwrap_or, List, length, map, slice_index, AllPairs}
use Rattle.std.specs.Option.{option_map}
use Rattle.asg_model.specs.declared.objectives.Objective.{Objective}
use Rattle.asg_model.specs.Live.{live_at}
use Rattle.asg_model.specs.Problem.{Problem}
use Rattle.asg_model.specs.Sums.{sum_below}
use Rattle.asg_monoids.specs.Entered.{sum_entered}

-- the number of a live cell: as which its cost enters sums
abbrev pub number_at : Objective → Problem → ℕ → ℕ → Option ℕ
number_at objective X r c = option_map (sum_entered objective) (live_at X r c)

-- the choice that gives each row its column of a list
abbrev pub choice_of : List ℕ → List (Option ℕ)
choice_of columns = map Some columns

-- the number of the cell that a list of columns gives a row, 0 where it isn't live
abbrev pub chosen_number : Objective → Problem → List ℕ → ℕ → ℕ
chosen_number objective X columns r =
    unwrap_or (number_at objective X r (slice_index columns r)) 0

-- the numbers of the cells that a list of columns gives the rows, added up
abbrev pub sum_at : Objective → Problem → List ℕ → ℕ
sum_at objective X columns = sum_below (chosen_number objective X columns) (length X.rows)

-- an answer: a column for each row, different ones, by live cells
pub record IsAnswer (objective : Objective) (X : Problem) (columns : List ℕ) : Type 0 where
  pub over : length columns ≡ length X.rows
  pub alive : (r : ℕ) → r < length X.rows
      → IsSome (number_at objective X r (slice_index columns r))
  pub different : AllPairs ◌≢◌ columns
