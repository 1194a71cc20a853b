-- The different costs of live cells.
use Rattle.std.specs.Prelude.{◌≡◌, ◌≢◌, ◌↔◌, ℕ, ℤ, ◌≤◌, List, length, AllPairs, Contains, Some}
use Rattle.asg_model.specs.declared.parts.Cost.{Cost}
use Rattle.asg_model.specs.Live.{live_at}
use Rattle.asg_model.specs.Problem.{Problem}

-- the greatest number of different costs
abbrev pub most_costs : ℕ
most_costs = 20000

-- a live cell has this cost
pub record IsLiveCost (X : Problem) (a : ℤ) : Type 0 where
  pub row : ℕ
  pub column : ℕ
  pub cost : Cost
  pub live : live_at X row column ≡ Some cost
  pub is : cost.a ≡ a

-- the list has each cost of a live cell once, and no other
pub record AreLiveCosts (X : Problem) (costs : List ℤ) : Type 0 where
  pub apart : AllPairs ◌≢◌ costs
  pub exact : (a : ℤ) → Contains costs a ↔ IsLiveCost X a

-- the live cells have so many different costs
pub record HasCosts (X : Problem) (count : ℕ) : Type 0 where
  pub costs : List ℤ
  pub all : AreLiveCosts X costs
  pub counted : length costs ≡ count

-- the live cells have at most 20,000 different costs
pub record HasFewCosts (X : Problem) : Type 0 where
  pub count : ℕ
  pub costs : HasCosts X count
  pub few : count ≤ most_costs
