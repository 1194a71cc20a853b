-- Dual variables of an instance for sums, and what they say of its best choices.
use Rattle.std.specs.Prelude.{◌≡◌, ℕ, ◌+◌, ◌*◌, ◌^◌, ◌<◌, ◌≤◌, ℤ, pos, ◌+ℤ◌, ◌-ℤ◌, All, List, length, Option, Some, sum_by, slice_index, slice_index_or}
use Rattle.asg_model.specs.declared.objectives.Objective.{Objective}
use Rattle.asg_model.specs.declared.objectives.Objective.TheVariants.{Sum, SumMax}
use Rattle.asg_model.specs.declared.objectives.Value.TheVariants.{One}
use Rattle.asg_model.specs.declared.parts.Column.{Column}
use Rattle.asg_model.specs.declared.parts.Cost.{Cost}
use Rattle.asg_model.specs.Best.{IsBest}
use Rattle.asg_model.specs.Counts.{placed}
use Rattle.asg_model.specs.Live.{live_at}
use Rattle.asg_model.specs.Problem.{Problem}
use Rattle.asg_model.specs.Table.{absent}
use Rattle.asg_model.specs.Values.{choice_value, costs_of}
use Rattle.asg_monoids.specs.Entered.{cost_reach, shifted, sum_entered, turned}

-- a column takes one row at most
abbrev pub IsSingle : Column → Type 0
IsSingle column = column.cap ≤ 1

-- one to one: a valid choice places each row, and each column takes one at most
pub record IsOneToOne (X : Problem) : Type 0 where
  pub all : placed X ≡ length X.rows
  pub single : All IsSingle X.columns

-- each live cost of a row, with its column's rise, is at least the fall
abbrev pub IsRowAbove : Objective → Problem → ℕ → ℕ → List ℕ → Type 0
IsRowAbove objective X r fall rises = (c : ℕ) (cost : Cost) → live_at X r c ≡ Some cost
    → fall ≤ sum_entered objective cost + slice_index rises c

-- the greatest rises and falls that tests are made for
abbrev pub most_amount : ℕ
most_amount = 2 ^ 62

-- no number is greater
abbrev pub AreSmall : List ℕ → Type 0
AreSmall numbers = (k : ℕ) → k < length numbers → slice_index numbers k ≤ most_amount

-- the number as which costs with this first part enter for `sum` or `sum-max`
abbrev pub first_entered : Objective → ℤ → ℕ
first_entered Sum a = shifted a
first_entered SumMax a = turned a
first_entered _ a = 0

-- each cost with one of these first parts, with its column's rise, is at least the fall
abbrev pub AreFirstsAbove : Objective → List ℤ → ℕ → List ℕ → Type 0
AreFirstsAbove objective firsts fall rises = (c : ℕ) → c < length rises
    → fall ≤ first_entered objective (slice_index_or firsts c absent) + slice_index rises c

-- each live cost, with its column's rise, is at least its row's fall
abbrev pub AreAbove : Objective → Problem → List ℕ → List ℕ → Type 0
AreAbove objective X falls rises = (r : ℕ) → IsRowAbove objective X r (slice_index falls r) rises

-- what the chosen costs of a choice come to as numbers
abbrev pub chosen_sum : Objective → Problem → List (Option ℕ) → ℕ
chosen_sum objective X f = sum_by (sum_entered objective) (costs_of X f)

-- what costs of so many rows with this sum come to as numbers
abbrev pub number_of : Objective → ℕ → ℤ → ℤ
number_of Sum rows z = z +ℤ pos (cost_reach * rows)
number_of _ rows z = pos (cost_reach * rows) -ℤ z

-- a choice that is best has this sum
abbrev pub IsBestSum : Objective → Problem → ℤ → Type 0
IsBestSum objective X z =
    (f : List (Option ℕ)) × IsBest objective X f × (choice_value objective X f ≡ One z)
