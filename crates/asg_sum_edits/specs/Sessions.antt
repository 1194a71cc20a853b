-- What contracts see of a session, and what it keeps.
use Rattle.std.specs.Prelude.{◌≡◌, ◌≢◌, ℕ, ◌+◌, ◌≤◌, ℤ, Bool, true, IsTrue, List, Option, Some, length, sum, slice_get, slice_index}
use Rattle.asg_model.specs.declared.objectives.Objective.{Objective}
use Rattle.asg_model.specs.declared.objectives.Value.TheVariants.{One}
use Rattle.asg_model.specs.declared.parts.Cost.{Cost}
use Rattle.asg_model.specs.Limits.{most_side}
use Rattle.asg_model.specs.Problem.{Problem}
use Rattle.asg_model.specs.Shapes.{square_side}
use Rattle.asg_model.specs.ValidChoice.{IsValid}
use Rattle.asg_model.specs.Values.{choice_value}
use Rattle.asg_monoids.specs.Entered.{sum_entered}
use Rattle.asg_monoids.specs.NarrowObjectives.{is_narrow_objective}
use Rattle.asg_sum_edits.specs.declared.founds.Found.{Found}
use Rattle.asg_sum_edits.specs.SumDuals.{AreAbove, IsOneToOne, chosen_sum}

-- the objective, and the instance as edited
pub record SumsOf : Type 0 where
  pub objective : Objective
  pub instance : Problem

-- a number for each row and each column, under which no live cost is less than its row's
pub record IsHeld (objective : Objective) (X : Problem) (found : Found) : Type 0 where
  pub over_rows : length found.falls.items ≡ length X.rows
  pub over_columns : length found.rises.items ≡ length X.columns
  pub over : length found.choice ≡ length X.rows
  pub above : AreAbove objective X found.falls.items found.rises.items

-- the choice is valid, comes to no more than the numbers, and has this sum
pub record IsLeastSum (objective : Objective) (X : Problem) (falls rises : List ℕ)
    (f : List (Option ℕ)) (z : ℤ) : Type 0 where
  pub valid : IsValid X f
  pub balance : chosen_sum objective X f + sum rises ≤ sum falls
  pub value : choice_value objective X f ≡ One z

-- the same of what was found
abbrev pub IsLeast : Objective → Problem → Found → Type 0
IsLeast objective X found =
    IsLeastSum objective X found.falls.items found.rises.items found.choice found.sum

-- both
pub record IsFound (objective : Objective) (X : Problem) (found : Found) : Type 0 where
  pub held : IsHeld objective X found
  pub least : IsLeast objective X found

-- what a session keeps: where it stands the instance is one to one and the numbers hold for it, and
-- where the sum is known the choice has it
pub record IsSession (objective : Objective) (X : Problem) (stands known : Bool) (found : Found)
    : Type 0 where
  pub narrow : IsTrue (is_narrow_objective objective)
  pub small : square_side X ≤ most_side
  pub one_to_one : stands ≡ true → IsOneToOne X
  pub held : stands ≡ true → IsHeld objective X found
  pub least : stands ≡ true → known ≡ true → IsLeast objective X found

-- what was found goes on to hold where a cell got a cost: its row's fall went down to it if need be;
-- and the choice is known to be best where it was, no fall went down, and it doesn't have the cell
pub record Follows (objective : Objective) (before after : Found) (known : Bool) (r c : ℕ)
    (cost : Cost) (knows : Bool) : Type 0 where
  pub rises : after.rises.items ≡ before.rises.items
  pub choice : after.choice ≡ before.choice
  pub sum : after.sum ≡ before.sum
  pub count : length after.falls.items ≡ length before.falls.items
  pub low : slice_index after.falls.items r
      ≤ sum_entered objective cost + slice_index before.rises.items c
  pub others : (k : ℕ) → slice_index after.falls.items k ≤ slice_index before.falls.items k
  pub was : knows ≡ true → known ≡ true
  pub falls : knows ≡ true → after.falls.items ≡ before.falls.items
  pub apart : knows ≡ true → slice_get before.choice r ≢ Some (Some c)
