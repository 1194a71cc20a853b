-- A valid choice that comes to no more than the dual variables say is best.
use Rattle.asg_sum_edits.proofs.Common.{◌≡◌, ℕ, zero, suc, ◌+◌, ◌<◌, ◌≤◌, min, Bool, true, false, cond, List, [], ◌∷◌, map, length, get_or, is_some, IsSome, IsTrue, slice_get, Some, None, All, sum_by, sum, count_by, Option, option_to_list, filter_map, refl, ap, ◌∙◌, subst, ⊎_elim, arith, eq-eqb, All-head, All-tail, cases_lt, count_by-le-length, get_or_from_slice_get, nat_tests, option_map_or, range_with_len, sum-map, sum_by-append, sum_by-cons, capacity_at, IsInstance, live_at, Problem, IsValid, takes, chosen_cost, costs_of, Objective, Column, Cost, cost_reach, sum_entered, top_of, is_narrow_objective, bounded_fold, sums_keep_order, Bridges-from_KeepsOrder, lies_within, AreAbove, IsOneToOne, IsSingle, chosen_sum, option_and_then}
use Rattle.asg_model.specs.Best.{IsBest}
use Rattle.asg_model.specs.laws.Counting.{sum_below-add, sum_below-exchange, sum_below-le, sum_by-below, term-le-sum_below}
use Rattle.asg_model.specs.laws.Listing.{filter_map-range_more}
use Rattle.asg_model.specs.Sums.{count_below, one, sum_below}
use Rattle.asg_monoids.specs.BoundedSums.{bounded_sums}
use Rattle.asg_order.specs.Bridge.{choice_fold}
use Rattle.asg_order.specs.Monoid.{IsLess}
use Rattle.asg_monoids.specs.laws.NarrowObjectives.{PassesNegative-narrow, is_sum-narrow}
use Rattle.asg_model.proofs.Kit.{get_or_past}

-- where all of a list are there, each is
all_some : (g : List (Option ℕ)) → count_by is_some g ≡ length g → (r : ℕ) → r < length g → (c : ℕ) × (slice_get g r ≡ Some (Some c))
all_some [] e r h = absurd (omega (arith, h))
all_some (None ∷ g) e r h =
    let first : count_by is_some (None ∷ g) ≡ 0 + count_by is_some g = sum_by-cons (λ (chosen : Option ℕ). cond (is_some chosen) 1 0) None g in
    let rest = count_by-le-length is_some g in
    absurd (omega (arith, first, rest, e))
all_some (Some c ∷ g) e zero h = (c, refl)
all_some (Some c ∷ g) e (suc r) h =
    let first : count_by is_some (Some c ∷ g) ≡ 1 + count_by is_some g = sum_by-cons (λ (chosen : Option ℕ). cond (is_some chosen) 1 0) (Some c) g in
    all_some g (omega (arith, first, e)) r (omega (arith, h))

-- a number is added up once where one place has it
none_passes : (p : ℕ → Bool) (k n : ℕ) → count_below p n ≡ 0 → sum_below (λ r. cond (p r) k 0) n ≡ 0
none_passes p k zero e = refl
none_passes p k (suc n) e = by (p n) refl (none_passes p k n)
  where
    by : (b : Bool) → p n ≡ b → (count_below p n ≡ 0 → sum_below (λ r. cond (p r) k 0) n ≡ 0) → sum_below (λ r. cond (p r) k 0) (suc n) ≡ 0
    by true is rest = let last : one (p n) ≡ 1 = ap one is in absurd (omega (arith, last, e))
    by false is rest =
        let last : one (p n) ≡ 0 = ap one is in
        let none : cond (p n) k 0 ≡ 0 = ap (λ b. cond b k 0) is in
        let before = rest (omega (arith, last, e)) in
        omega (arith, none, before)

one_passes : (p : ℕ → Bool) (k n : ℕ) → count_below p n ≤ 1 → sum_below (λ r. cond (p r) k 0) n ≤ k
one_passes p k zero e = omega arith
one_passes p k (suc n) e = by (p n) refl (one_passes p k n)
  where
    by : (b : Bool) → p n ≡ b → (count_below p n ≤ 1 → sum_below (λ r. cond (p r) k 0) n ≤ k) → sum_below (λ r. cond (p r) k 0) (suc n) ≤ k
    by true is rest =
        let last : one (p n) ≡ 1 = ap one is in
        let here : cond (p n) k 0 ≡ k = ap (λ b. cond b k 0) is in
        let before = none_passes p k n (omega (arith, last, e)) in
        omega (arith, here, before)
    by false is rest =
        let last : one (p n) ≡ 0 = ap one is in
        let none : cond (p n) k 0 ≡ 0 = ap (λ b. cond b k 0) is in
        let before = rest (omega (arith, last, e)) in
        omega (arith, none, before)

-- a column that takes one row at most has room for one
single_at : (columns : List Column) (c : ℕ) → All IsSingle columns → option_map_or (λ (column : Column). column.cap) (slice_get columns c) 0 ≤ 1
single_at [] c all = omega arith
single_at (column ∷ columns) zero all = All-head IsSingle column columns all
single_at (column ∷ columns) (suc c) all = single_at columns c (All-tail IsSingle column columns all)

sum_one : {A : Type 0} (h : A → ℕ) (o : Option A) → sum_by h (option_to_list o) ≡ option_map_or h o 0
sum_one h None = refl
sum_one h (Some x) = omega (arith, sum_by-cons h x [])

-- what is there of a range, added up
sum_there : {A : Type 0} (h : A → ℕ) (k : ℕ → Option A) (n : ℕ) → sum_by h (filter_map k (range_with_len 0 n)) ≡ sum_below (λ r. option_map_or h (k r) 0) n
sum_there h k zero = refl
sum_there h k (suc n) =
    let e : suc n ≡ n + 1 = omega arith in
    let more : sum_by h (filter_map k (range_with_len 0 (suc n))) ≡ sum_by h (filter_map k (range_with_len 0 n)) + option_map_or h (k n) 0 =
    ap (λ m. sum_by h (filter_map k (range_with_len 0 m))) e
    ∙ ap (sum_by h) (filter_map-range_more k n)
    ∙ sum_by-append h (filter_map k (range_with_len 0 n)) (option_to_list (k n))
    ∙ ap (λ m. sum_by h (filter_map k (range_with_len 0 n)) + m) (sum_one h (k n)) in
    let rest = sum_there h k n in
    omega (arith, more, rest)

-- ---- what the dual variables say of a valid choice

module _ (objective : Objective) (X : Problem) (falls rises : List ℕ) (g : List (Option ℕ)) (one_to_one : IsOneToOne X) (over : length falls ≡ length X.rows) (above : AreAbove objective X falls rises) (valid : IsValid X g) where
  -- the number of a row's cell, and the rises of the columns that it takes
  abbrev number : ℕ → ℕ
  number r = option_map_or (sum_entered objective) (chosen_cost X g r) 0

  abbrev taken : ℕ → ℕ → ℕ
  taken r c = cond (takes c (get_or g r None)) (get_or rises c 0) 0

  abbrev rise_of : ℕ → ℕ
  rise_of r = sum_below (taken r) (length rises)

  chosen_in : (r : ℕ) → r < length X.rows → (c : ℕ) × (slice_get g r ≡ Some (Some c))
  chosen_in r h = all_some g (omega (arith, valid.counted, one_to_one.all, valid.over)) r (omega (arith, valid.over, h))

  -- the rise of the column that a row takes
  rise_within : (r c : ℕ) → slice_get g r ≡ Some (Some c) → get_or rises c 0 ≤ rise_of r
  rise_within r c at =
      let is : get_or g r None ≡ Some c = get_or_from_slice_get g r (Some c) None at in
      let here : taken r c ≡ get_or rises c 0 = ap (λ o. cond (takes c o) (get_or rises c 0) 0) is ∙ ap (λ b. cond b (get_or rises c 0) 0) (eq-eqb c c refl) in
      ⊎_elim
      (λ (within : c < length rises).
      let term : taken r c ≤ rise_of r = term-le-sum_below (taken r) (length rises) c within in
      omega (arith, term, here))
      (λ (beyond : length rises ≤ c). let none = get_or_past rises c 0 beyond in omega (arith, none))
      (cases_lt c (length rises))

  row_above : (r : ℕ) → r < length X.rows → get_or falls r 0 ≤ number r + rise_of r
  row_above r h =
      let at = chosen_in r h in
      let rise = rise_within r at.0 at.1 in
      by (live_at X r at.0) refl (valid.alive r at.0 at.1) rise
    where
      by : (o : Option Cost) → live_at X r (chosen_in r h).0 ≡ o → IsSome o → get_or rises (chosen_in r h).0 0 ≤ rise_of r → get_or falls r 0 ≤ number r + rise_of r
      by None is some rise = absurd (let none = some in cc)
      by (Some cost) is some rise =
          let chosen : chosen_cost X g r ≡ Some cost = ap (option_and_then (λ chosen. option_and_then (live_at X r) chosen)) (chosen_in r h).1 ∙ is in
          let number_is : number r ≡ sum_entered objective cost = ap (λ o. option_map_or (sum_entered objective) o 0) chosen in
          let low = above r (chosen_in r h).0 cost is in
          omega (arith, number_is, low, rise)

  -- no column's rise counts twice
  column_once : (c : ℕ) → sum_below (λ r. taken r c) (length X.rows) ≤ get_or rises c 0
  column_once c =
      let count : count_by (takes c) g ≡ count_below (λ r. takes c (get_or g r None)) (length g) = sum_by-below (λ o. cond (takes c o) 1 0) g None in
      let single : capacity_at X c ≤ 1 = single_at X.columns c one_to_one.single in
      let few : count_below (λ r. takes c (get_or g r None)) (length X.rows) ≤ 1 =
      subst (λ n. count_below (λ r. takes c (get_or g r None)) n ≤ 1) valid.over (omega (arith, count, single, valid.within c)) in
      one_passes (λ r. takes c (get_or g r None)) (get_or rises c 0) (length X.rows) few

  pub low_enough : sum falls ≤ chosen_sum objective X g + sum rises
  low_enough =
      let fall : sum falls ≡ sum_below (λ k. get_or falls k 0) (length falls) = sum_by-below (λ x. x) falls 0 in
      let fall_over : sum_below (λ k. get_or falls k 0) (length falls) ≡ sum_below (λ k. get_or falls k 0) (length X.rows) = ap (sum_below (λ k. get_or falls k 0)) over in
      let rise : sum rises ≡ sum_below (λ k. get_or rises k 0) (length rises) = sum_by-below (λ x. x) rises 0 in
      let each : sum_below (λ k. get_or falls k 0) (length X.rows) ≤ sum_below (λ r. number r + rise_of r) (length X.rows) = sum_below-le (λ k. get_or falls k 0) (λ r. number r + rise_of r) (length X.rows) row_above in
      let both : sum_below (λ r. number r + rise_of r) (length X.rows) ≡ sum_below number (length X.rows) + sum_below rise_of (length X.rows) = sum_below-add number rise_of (length X.rows) in
      let swapped : sum_below rise_of (length X.rows) ≡ sum_below (λ c. sum_below (λ r. taken r c) (length X.rows)) (length rises) = sum_below-exchange taken (length X.rows) (length rises) in
      let once : sum_below (λ c. sum_below (λ r. taken r c) (length X.rows)) (length rises) ≤ sum_below (λ k. get_or rises k 0) (length rises) = sum_below-le (λ c. sum_below (λ r. taken r c) (length X.rows)) (λ k. get_or rises k 0) (length rises) (λ c h. column_once c) in
      let there : chosen_sum objective X g ≡ sum_below number (length g) = sum_there (sum_entered objective) (chosen_cost X g) (length g) in
      let there_over : sum_below number (length g) ≡ sum_below number (length X.rows) = ap (sum_below number) valid.over in
      omega (arith, fall, fall_over, rise, each, both, swapped, once, there, there_over)

-- ---- lesser sums are better

less_below : (top x y : ℕ) → IsLess (bounded_sums top) x y → x < y
less_below top x y less = grind (arith, nat_tests, less)

pub least_is_best : (objective : Objective) (X : Problem) (falls rises : List ℕ) (f : List (Option ℕ)) → IsTrue (is_narrow_objective objective) → IsInstance X → IsOneToOne X → length falls ≡ length X.rows → AreAbove objective X falls rises → IsValid X f → chosen_sum objective X f + sum rises ≤ sum falls → IsBest objective X f
least_is_best objective X falls rises f narrow instance one_to_one over above valid balance = record {
  valid = valid;
  none_better = λ g valid_g better.
      let M = bounded_sums (top_of objective) in
      let enter = sum_entered objective in
      let keeps = sums_keep_order objective (is_sum-narrow objective narrow) in
      let bridge = Bridges-from_KeepsOrder M enter objective cost_reach keeps X g f instance.well_formed.few_rows (lies_within cost_reach X (omega arith) instance) (PassesNegative-narrow objective X narrow) valid_g valid in
      let less : choice_fold M enter X g < choice_fold M enter X f = less_below (top_of objective) (choice_fold M enter X g) (choice_fold M enter X f) (bridge.0 better) in
      let fold_g : choice_fold M enter X g ≡ min (chosen_sum objective X g) (top_of objective) = bounded_fold (top_of objective) (map enter (costs_of X g)) ∙ ap (λ s. min s (top_of objective)) (sum-map enter (costs_of X g)) in
      let fold_f : choice_fold M enter X f ≡ min (chosen_sum objective X f) (top_of objective) = bounded_fold (top_of objective) (map enter (costs_of X f)) ∙ ap (λ s. min s (top_of objective)) (sum-map enter (costs_of X f)) in
      let low = low_enough objective X falls rises g one_to_one over above valid_g in
      absurd (omega (arith, less, fold_g, fold_f, low, balance));
}
