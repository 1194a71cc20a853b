-- Rosters: rows are crews, columns are duties, and a cell's cost is the overtime in hours.
use Rattle.std.specs.Prelude.{◌≡◌, ℕ, ℤ, ◌≤ℤ◌, List, Option}
use Rattle.asg_model.specs.Extremes.{greatest}
use Rattle.asg_model.specs.Problem.{Problem}
use Rattle.asg_model.specs.ValidChoice.{IsValid}
use Rattle.asg_model.specs.Values.{costs_of, first_parts}
use Rattle.asg_caller.specs.declared.rosters.Roster.{Roster}

-- the longest overtime that a choice of duties asks of a crew
abbrev pub longest_of : Problem → List (Option ℕ) → ℤ
longest_of X f = greatest (first_parts (costs_of X f))

-- a roster is best: its choice is valid, its overtime is the longest in it, and whatever valid
-- choice is made in its place, some crew works as long or longer
pub record IsBestRoster (X : Problem) (roster : Roster) : Type 0 where
  pub valid : IsValid X roster.choice
  pub told : roster.overtime ≡ longest_of X roster.choice
  pub least : (g : List (Option ℕ)) → IsValid X g → roster.overtime ≤ℤ longest_of X g

-- no choice of duties is valid
abbrev pub HasNoRoster : Problem → Type 0
HasNoRoster X = (g : List (Option ℕ)) → IsValid X g → ⊥
