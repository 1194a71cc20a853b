-- A search that is under way: the square isn't touched, the steps and the leads stand beside it.
use Rattle.std.specs.Prelude.{◌≡◌, ◌⊎◌, ◌++◌, ◌∷◌, [], ℕ, ◌<◌, List, length, Option, None, All}
use Rattle.asg_order.specs.Monoid.{Monoid, IsValue, IsLe}
use Rattle.asg_proof.specs.Steps.{HasValues}
use Rattle.asg_growth.specs.Keys.{IsLead, AreSums}
use Rattle.asg_growth.specs.Searching.{IsSearching}

-- a square of values, rows of it, and for each row a value
pub record AreScanned {V : Type 0} (M : Monoid V) (side : ℕ) (start : ℕ → ℕ → Option V)
    (rows : List ℕ) (sums : List V) : Type 0 where
  pub values : HasValues M side start
  pub below : All (λ r. r < side) rows
  pub sums_side : length sums ≡ length rows
  pub sums_values : All (IsValue M) sums

-- the search, with a lead for each column that wasn't reached, by the rows at the places that were
-- seen
pub record IsUnderway {V : Type 0} (M : Monoid V) (difference : V → V → V) (never side : ℕ)
    (start : ℕ → ℕ → Option V) (index : V) (matching : List (Option ℕ)) (rows : List ℕ)
    (parents : ℕ → Option ℕ) (sums : List V) (leads : ℕ → Option V) (places : ℕ → ℕ)
    (enters leaves : List ℕ) (steps : List V) (sum : V) (seen : ℕ) : Type 0 where
  pub index_is_value : IsValue M index
  pub searching : IsSearching M difference side never start index steps enters leaves matching rows
      parents
  pub sums_are : AreSums M steps enters rows sums sum
  pub scanned : AreScanned M side start rows sums
  pub sum_is_value : IsValue M sum
  pub leads_are : (k : ℕ) → k < side → parents k ≡ None
      → IsLead M start rows sums seen k (leads k) (places k)

-- the sum goes up to a key, by a step where it must
pub record Advances {V : Type 0} (M : Monoid V) (difference : V → V → V) (key : V) (steps : List V)
    (sum : V) (steps_after : List V) (sum_after : V) : Type 0 where
  pub either : ((steps_after ≡ steps) × (sum_after ≡ sum) × IsLe M key sum)
      ⊎ ((steps_after ≡ steps ++ difference key sum ∷ []) × (sum_after ≡ key) × IsLe M sum key)
