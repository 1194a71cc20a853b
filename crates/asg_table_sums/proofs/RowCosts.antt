-- The costs of a row as they stand in its table, and what they enter as.
use Rattle.asg_table_sums.proofs.Common.{◌≡◌, ℕ, ◌+◌, ◌≤◌, List, ℤ, pos, negsuc, ◌+ℤ◌, ◌-ℤ◌, ◌≤ℤ◌, slice_index_or, Some, arith, ints, IsInstance, live_at, Problem, absent, AreRowParts, Cost, shifted, turned}
use Rattle.asg_values.specs.laws.LiveCells.{first_of_live}
use Rattle.asg_values.specs.laws.RowSlots.{first-at_live}

module _ (X : Problem) (instance : IsInstance X) (r : ℕ) (firsts seconds : List ℤ) (parts : AreRowParts X r firsts seconds) (d c : ℕ) (x y : Cost) (own : live_at X r d ≡ Some x) (other : live_at X r c ≡ Some y) (k l : ℕ) where
  -- what is no more as costs stand is no more as they enter
  pub shifted_le : (slice_index_or firsts d absent +ℤ pos k) ≤ℤ (slice_index_or firsts c absent +ℤ pos l) → shifted x.a + k ≤ shifted y.a + l
  shifted_le le =
      let ex = first-at_live X r firsts seconds parts d x own in
      let ey = first-at_live X r firsts seconds parts c y other in
      let nx = first_of_live X instance r d x own in
      let ny = first_of_live X instance r c y other in
      omega (arith, ints, le, ex, ey, nx, ny)

  -- the same, as they enter turned round
  pub turned_le : (pos k -ℤ slice_index_or firsts d absent) ≤ℤ (pos l -ℤ slice_index_or firsts c absent) → turned x.a + k ≤ turned y.a + l
  turned_le le =
      let ex = first-at_live X r firsts seconds parts d x own in
      let ey = first-at_live X r firsts seconds parts c y other in
      let nx = first_of_live X instance r d x own in
      let ny = first_of_live X instance r c y other in
      omega (arith, ints, le, ex, ey, nx, ny)

module _ (X : Problem) (instance : IsInstance X) (r : ℕ) (firsts seconds : List ℤ) (parts : AreRowParts X r firsts seconds) (c : ℕ) (x : Cost) (live : live_at X r c ≡ Some x) (k : ℕ) (top : ℤ) (low : negsuc 999999999 ≤ℤ top) where
  -- a cost that is at most a top is so as it enters
  pub shifted_under : (slice_index_or firsts c absent +ℤ pos k) ≤ℤ top → shifted x.a + k ≤ shifted top
  shifted_under le =
      let ex = first-at_live X r firsts seconds parts c x live in
      let nx = first_of_live X instance r c x live in
      omega (arith, ints, le, low, ex, nx)

  pub turned_under : (pos k -ℤ slice_index_or firsts c absent) ≤ℤ top → turned x.a + k ≤ shifted top
  turned_under le =
      let ex = first-at_live X r firsts seconds parts c x live in
      let nx = first_of_live X instance r c x live in
      omega (arith, ints, le, low, ex, nx)

  -- a cost that is at least a top is so as it enters
  pub shifted_over : top ≤ℤ (slice_index_or firsts c absent +ℤ pos k) → shifted top ≤ shifted x.a + k
  shifted_over le =
      let ex = first-at_live X r firsts seconds parts c x live in
      let nx = first_of_live X instance r c x live in
      omega (arith, ints, le, low, ex, nx)

  pub turned_over : top ≤ℤ (pos k -ℤ slice_index_or firsts c absent) → shifted top ≤ turned x.a + k
  turned_over le =
      let ex = first-at_live X r firsts seconds parts c x live in
      let nx = first_of_live X instance r c x live in
      omega (arith, ints, le, low, ex, nx)
