-- The keys of columns: the least product of a row's sum at its entry and its cell.
use Rattle.std.specs.Prelude.{◌≡◌, ℕ, ◌<◌, List, length, Option, Some, slice_index, slice_index_or}
use Rattle.asg_order.specs.Monoid.{Monoid, IsValue, IsLe, fold_of}
use Rattle.asg_admit.specs.Settled.{step_of, between}

-- the key of column k by the row at a place
pub record IsKeyBy {V : Type 0} (M : Monoid V) (start : ℕ → ℕ → Option V) (rows : List ℕ)
    (sums : List V) (seen k : ℕ) (key : V) (place : ℕ) : Type 0 where
  pub value : IsValue M key
  pub within : place < seen
  pub cell : V
  pub there : start (slice_index rows place) k ≡ Some cell
  pub is : key ≡ M.product (slice_index_or sums place M.unit) cell

-- the lead of a column: the least key by the rows at the places that were seen, and the place of
-- its row
pub record IsLead {V : Type 0} (M : Monoid V) (start : ℕ → ℕ → Option V) (rows : List ℕ)
    (sums : List V) (seen k : ℕ) (lead : Option V) (place : ℕ) : Type 0 where
  pub found : (key : V) → lead ≡ Some key → IsKeyBy M start rows sums seen k key place
  pub least : (i : ℕ) (x : V) → i < seen → start (slice_index rows i) k ≡ Some x
      → (key : V) × (lead ≡ Some key) × IsLe M key (M.product (slice_index_or sums i M.unit) x)

-- the sum at the entry of each row of the tree
pub record AreSums {V : Type 0} (M : Monoid V) (steps : List V) (enters rows : List ℕ)
    (sums : List V) (sum : V) : Type 0 where
  pub sums_side : length sums ≡ length rows
  pub now : sum ≡ fold_of M steps
  pub at_entry : (i : ℕ) → i < length rows
      → slice_index_or sums i M.unit
      ≡ between M (step_of M steps) 0 (slice_index enters (slice_index rows i))
