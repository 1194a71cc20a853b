-- The state of a search over absorbed cells: an alternating tree on the square as the steps so far
-- leave it.
use Rattle.std.specs.Prelude.{◌≡◌, ◌↔◌, ℕ, ◌<◌, Bool, true, false, List, length, Option, Some, Contains}
use Rattle.asg_match.specs.Matching.{IsMatching, AllAllowed}
use Rattle.asg_match.specs.Alternating.{IsReached, IsTree, AllParentsAllowed}
use Rattle.asg_order.specs.Monoid.{Monoid, IsValue}
use Rattle.asg_proof.specs.Steps.{HasValues}

-- a present cell that the index absorbs
pub record IsAbsorbed {V : Type 0} (M : Monoid V) (index : V) (square : ℕ → ℕ → Option V)
    (r k : ℕ) : Type 0 where
  pub value : V
  pub there : square r k ≡ Some value
  pub is : M.product index value ≡ index

-- the tests tell the rows of a tree, and the columns that it didn't reach
pub record IsSplit (side : ℕ) (rows : List ℕ) (parents : ℕ → Option ℕ)
    (entered staying : ℕ → Bool) : Type 0 where
  pub rows_are : (r : ℕ) → r < side → (entered r ≡ true) ↔ Contains rows r
  pub columns_are : (k : ℕ) → k < side → (staying k ≡ false) ↔ IsReached parents k

-- an alternating tree whose cells, as the matched ones, are absorbed
pub record IsGrowing {V : Type 0} (M : Monoid V) (side : ℕ) (square : ℕ → ℕ → Option V) (index : V)
    (matching : List (Option ℕ)) (rows : List ℕ) (parents : ℕ → Option ℕ) : Type 0 where
  pub values : HasValues M side square
  pub index_is_value : IsValue M index
  pub matching_side : length matching ≡ side
  pub columns : IsMatching matching
  pub tree : IsTree matching rows parents
  pub tree_cells : AllParentsAllowed (IsAbsorbed M index square) rows parents
  pub matched_cells : AllAllowed (IsAbsorbed M index square) matching
