-- Dual variables for the costs `4 1 3 / 2 0 5 / 3 2 2`, each entered with 1000000000 added; the least
-- sum is that of 5, and 6 without the first row's second column. And for the first two rows alone,
-- where one column stays free and the floor counts.
use Rattle.asg_dual_bounds.proofs.Common.{◌≡◌, ℕ, zero, suc, ◌+◌, ◌<◌, ◌≤◌, ◌≢◌, List, [], ◌∷◌, IsSome, IsTrue, slice_index, Some, Contains, AllPairs, refl, subst, arith, All-cons, All-nil, none-some, same_Some, Duals, AreAbove, IsDualBound, IsRowGap, IsColumnGap, number_at, sum_at, IsAnswer, Part, whole_part, IsIn, child_part, IsPlain, Problem, Sum, SumMax}
use Rattle.asg_model.specs.declared.parts.Column.{Column}
use Rattle.asg_model.specs.declared.parts.Row.{Row}
use Rattle.asg_proof.proofs.WorkedPhase.{worked, row, column, cost}
use Rattle.asg_dual_bounds.proofs.DualBounds.{dual_bound, child_bound}
use Rattle.asg_dual_bounds.proofs.Splits.{in_whole, not_in_child}
use Rattle.asg_model.specs.declared.parts.Place.TheVariants.{All as PlaceAll}

abbrev best : List ℕ
best = 1 ∷ 0 ∷ 2 ∷ []

abbrev second : List ℕ
second = 0 ∷ 1 ∷ 2 ∷ []

abbrev duals : Duals
duals = record { falls = 1000000003 ∷ 1000000002 ∷ 1000000003 ∷ []; rises = 0 ∷ 2 ∷ 1 ∷ []; floor = 0 }

-- ---- the instance and its answers

plain : IsPlain worked
plain = record {
  place = refl;
  active = All-cons (λ (it : Row). IsTrue it.active) (row 1) (row 2 ∷ row 3 ∷ []) refl (All-cons (λ (it : Row). IsTrue it.active) (row 2) (row 3 ∷ []) refl (All-cons (λ (it : Row). IsTrue it.active) (row 3) [] refl (All-nil (λ (it : Row). IsTrue it.active))));
  single = All-cons (λ (it : Column). it.cap ≡ 1) (column 1) (column 2 ∷ column 3 ∷ []) refl (All-cons (λ (it : Column). it.cap ≡ 1) (column 2) (column 3 ∷ []) refl (All-cons (λ (it : Column). it.cap ≡ 1) (column 3) [] refl (All-nil (λ (it : Column). it.cap ≡ 1))));
}

best_sum : sum_at Sum worked best ≡ 3000000005
best_sum = refl

second_sum : sum_at Sum worked second ≡ 3000000006
second_sum = refl

-- turned round for `sum-max`
best_turned : sum_at SumMax worked best ≡ 2999999995
best_turned = refl

abbrev AreDifferent : List ℕ → Type 0
AreDifferent columns = AllPairs ◌≢◌ columns

is_best : IsAnswer Sum worked best
is_best = record { over = refl; alive = alive; different = different }
  where
    alive : (r : ℕ) → r < 3 → IsSome (number_at Sum worked r (slice_index best r))
    alive zero h = refl
    alive (suc zero) h = refl
    alive (suc (suc zero)) h = refl
    alive (suc (suc (suc r))) h = absurd (omega (arith, h))

    different : AreDifferent best
    different zero zero d h k e = omega (arith, h)
    different zero (suc zero) d h k e = omega (arith, e)
    different zero (suc (suc zero)) d h k e = omega (arith, e)
    different (suc zero) zero d h k e = omega (arith, h)
    different (suc zero) (suc zero) d h k e = omega (arith, h)
    different (suc zero) (suc (suc zero)) d h k e = omega (arith, e)
    different (suc (suc i)) zero d h k e = omega (arith, h)
    different (suc (suc i)) (suc zero) d h k e = omega (arith, h)
    different (suc (suc i)) (suc (suc zero)) d h k e = omega (arith, h)
    different i (suc (suc (suc j))) d h k e = omega (arith, k)

-- two rows can't have one column
not_both : ¬ IsAnswer Sum worked (1 ∷ 1 ∷ 2 ∷ [])
not_both is = is.different 0 1 0 (omega arith) (omega arith) refl

-- ---- the bound

at : (fall rise number x : ℕ) → fall ≤ number + rise → Some number ≡ Some x → fall ≤ x + rise
at fall rise number x le e = subst (λ y. fall ≤ y + rise) (same_Some number x e) le

above : AreAbove Sum worked whole_part duals
above = record { rows = refl; columns = refl; cells = λ r c x e allowed. cells r c x e; floored = λ c h. omega arith }
  where
    cells : (r c x : ℕ) → number_at Sum worked r c ≡ Some x → slice_index duals.falls r ≤ x + slice_index duals.rises c
    cells zero zero x e = at 1000000003 0 1000000004 x (omega arith) e
    cells zero (suc zero) x e = at 1000000003 2 1000000001 x (omega arith) e
    cells zero (suc (suc zero)) x e = at 1000000003 1 1000000003 x (omega arith) e
    cells zero (suc (suc (suc c))) x e = absurd (none-some x e)
    cells (suc zero) zero x e = at 1000000002 0 1000000002 x (omega arith) e
    cells (suc zero) (suc zero) x e = at 1000000002 2 1000000000 x (omega arith) e
    cells (suc zero) (suc (suc zero)) x e = at 1000000002 1 1000000005 x (omega arith) e
    cells (suc zero) (suc (suc (suc c))) x e = absurd (none-some x e)
    cells (suc (suc zero)) zero x e = at 1000000003 0 1000000003 x (omega arith) e
    cells (suc (suc zero)) (suc zero) x e = at 1000000003 2 1000000002 x (omega arith) e
    cells (suc (suc zero)) (suc (suc zero)) x e = at 1000000003 1 1000000002 x (omega arith) e
    cells (suc (suc zero)) (suc (suc (suc c))) x e = absurd (none-some x e)
    cells (suc (suc (suc r))) c x e = absurd (none-some x e)

-- the first row's fall can't be greater: its second cell would be less than is asked
not_above : ¬ AreAbove Sum worked whole_part (record { falls = 1000000004 ∷ 1000000002 ∷ 1000000003 ∷ []; rises = 0 ∷ 2 ∷ 1 ∷ []; floor = 0 })
not_above other =
    let le = other.cells 0 1 1000000001 refl (in_whole best 0 (omega arith)) in
    omega (arith, le)

is_bound : IsDualBound 3 3 duals 3000000005
is_bound = omega arith

no_greater : ¬ IsDualBound 3 3 duals 3000000006
no_greater is = omega (arith, is)

-- so no answer's sum is less
least : (columns : List ℕ) → IsAnswer Sum worked columns → 3000000005 ≤ sum_at Sum worked columns
least columns is = dual_bound Sum worked whole_part duals 3000000005 above is_bound columns is (in_whole columns)

-- ---- the first child

abbrev first_child : Part
first_child = child_part whole_part best 0

bans_first : first_child ≡ record { columns = best; row = 0; banned = 1 ∷ [] }
bans_first = refl

best_outside : ¬ IsIn first_child best
best_outside inside = not_in_child whole_part best 0 (omega arith) inside

second_inside : IsIn first_child second
second_inside r h = record { fixed = λ lt. absurd (omega (arith, lt)); not_banned = λ e has. not_banned r e has }
  where
    banned_is : (k : ℕ) (c : ℕ) → k < 1 → slice_index (1 ∷ []) k ≡ c → c ≡ 1
    banned_is zero c h e = omega (arith, e)
    banned_is (suc k) c h e = absurd (omega (arith, h))

    not_banned : (r : ℕ) → r ≡ 0 → Contains (1 ∷ []) (slice_index second r) → ⊥
    not_banned zero e has = let one = banned_is has.0 0 has.1 has.2 in omega (arith, one)
    not_banned (suc r) e has = omega (arith, e)

-- without its second column the first row asks for 1 more
is_row_gap : IsRowGap Sum worked whole_part best 0 duals 1
is_row_gap zero x e allowed free = at 1000000004 0 1000000004 x (omega arith) e
is_row_gap (suc zero) x e allowed free = absurd (allowed.not_banned refl (0, omega arith, refl))
is_row_gap (suc (suc zero)) x e allowed free = at 1000000004 1 1000000003 x (omega arith) e
is_row_gap (suc (suc (suc c))) x e allowed free = absurd (none-some x e)

no_wider : ¬ IsRowGap Sum worked whole_part best 0 duals 2
no_wider is =
    let le = is 0 1000000004 refl (second_inside 0 (omega arith)) (λ r h. absurd (omega (arith, h))) in
    omega (arith, le)

is_column_gap : IsColumnGap Sum worked best 0 duals 0
is_column_gap = record { cells = cells; floored = omega arith }
  where
    cells : (j x : ℕ) → 0 < j → number_at Sum worked j 1 ≡ Some x → slice_index duals.falls j + 0 ≤ x + 2
    cells zero x h e = absurd (omega (arith, h))
    cells (suc zero) x h e = at 1000000002 2 1000000000 x (omega arith) e
    cells (suc (suc zero)) x h e = at 1000000003 2 1000000002 x (omega arith) e
    cells (suc (suc (suc j))) x h e = absurd (none-some x e)

-- so no other answer with another first column has a lesser sum than the second one
least_of_child : (columns : List ℕ) → IsAnswer Sum worked columns → IsIn first_child columns → 3000000006 ≤ sum_at Sum worked columns
least_of_child columns is inside =
    child_bound Sum worked whole_part duals 3000000005 above is_bound best 0 1 0 is_best (in_whole best) (omega arith) (omega arith) is_row_gap is_column_gap columns is inside

-- ---- a free column

abbrev wide : Problem
wide = record {
  rows = row 1 ∷ row 2 ∷ [];
  columns = column 1 ∷ column 2 ∷ column 3 ∷ [];
  cells = ((0, 0), cost 4) ∷ ((0, 1), cost 1) ∷ ((0, 2), cost 3) ∷ ((1, 0), cost 2) ∷ ((1, 1), cost 0) ∷ ((1, 2), cost 5) ∷ [];
  place = PlaceAll;
}

abbrev floored : Duals
floored = record { falls = 1000000004 ∷ 1000000003 ∷ []; rises = 1 ∷ 3 ∷ 1 ∷ []; floor = 1 }

wide_above : AreAbove Sum wide whole_part floored
wide_above = record { rows = refl; columns = refl; cells = λ r c x e allowed. cells r c x e; floored = floor_below }
  where
    cells : (r c x : ℕ) → number_at Sum wide r c ≡ Some x → slice_index floored.falls r ≤ x + slice_index floored.rises c
    cells zero zero x e = at 1000000004 1 1000000004 x (omega arith) e
    cells zero (suc zero) x e = at 1000000004 3 1000000001 x (omega arith) e
    cells zero (suc (suc zero)) x e = at 1000000004 1 1000000003 x (omega arith) e
    cells zero (suc (suc (suc c))) x e = absurd (none-some x e)
    cells (suc zero) zero x e = at 1000000003 1 1000000002 x (omega arith) e
    cells (suc zero) (suc zero) x e = at 1000000003 3 1000000000 x (omega arith) e
    cells (suc zero) (suc (suc zero)) x e = at 1000000003 1 1000000005 x (omega arith) e
    cells (suc zero) (suc (suc (suc c))) x e = absurd (none-some x e)
    cells (suc (suc r)) c x e = absurd (none-some x e)

    floor_below : (c : ℕ) → c < 3 → 1 ≤ slice_index floored.rises c
    floor_below zero h = omega arith
    floor_below (suc zero) h = omega arith
    floor_below (suc (suc zero)) h = omega arith
    floor_below (suc (suc (suc c))) h = absurd (omega (arith, h))

wide_bound : IsDualBound 3 2 floored 2000000003
wide_bound = omega arith

wide_best : sum_at Sum wide (1 ∷ 0 ∷ []) ≡ 2000000003
wide_best = refl

wide_least : (columns : List ℕ) → IsAnswer Sum wide columns → 2000000003 ≤ sum_at Sum wide columns
wide_least columns is = dual_bound Sum wide whole_part floored 2000000003 wide_above wide_bound columns is (in_whole columns)
