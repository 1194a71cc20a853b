-- The steps of a phase, those from one mark to the next joined into one.
use Rattle.std.specs.Prelude.{◌≡◌, ℕ, ◌+◌, ◌<◌, ◌≤◌, min, List, length, slice_index, slice_index_or}
use Rattle.asg_order.specs.Monoid.{Monoid}
use Rattle.asg_admit.specs.Settled.{step_of, between}

-- the marks from a step on have this place, and the places of the others stay
pub record PlacesFrom (marks : List ℕ) (from place : ℕ) (before after : List ℕ) : Type 0 where
  pub count : length after ≡ length before
  pub here : (i : ℕ) → i < length marks → from ≤ slice_index marks i → slice_index after i ≡ place
  pub others : (i : ℕ) → i < length marks → slice_index marks i < from
      → slice_index after i ≡ slice_index before i

-- the steps up to one were joined into so many products: each place stands at a step, the places
-- one after the other, each product is that of the steps from its place to the next, and each mark
-- has its place
pub record IsJoined {V : Type 0} (M : Monoid V) (steps : List V) (enters leaves : List ℕ) (upto : ℕ)
    (products : List V) (count : ℕ) (rows columns : List ℕ) : Type 0 where
  pub mark : ℕ → ℕ
  pub first : mark 0 ≡ 0
  pub last : mark count ≡ upto
  pub grows : (i : ℕ) → i < count → mark i < mark (i + 1)
  pub product : (i : ℕ) → i < count → slice_index_or products i M.unit
      ≡ between M (step_of M steps) (mark i) (mark (i + 1))
  pub row : (r : ℕ) → r < length enters → (slice_index rows r ≤ count)
      × (mark (slice_index rows r) ≡ min (slice_index enters r) upto)
  pub column : (k : ℕ) → k < length leaves → (slice_index columns k ≤ count)
      × (mark (slice_index columns k) ≡ min (slice_index leaves k) upto)
