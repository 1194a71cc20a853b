-- What the tests of a guess show.
use Rattle.asg_sum_edits.proofs.Common.{◌≡◌, ℕ, ◌+◌, ◌*◌, ◌<◌, ◌≤◌, List, length, ℤ, pos, ◌+ℤ◌, ◌-ℤ◌, ◌≤ℤ◌, IsTrue, slice_index, slice_index_or, Some, sum, Option, int_eq, sym, ap, ◌∙◌, subst, arith, ints, IsInstance, Problem, AreRowParts, absent, table_cost, IsValid, choice_value, costs_of, first_parts, total, Objective, Sum, SumMax, One, Cost, cost_reach, sum_entered, is_narrow_objective, sum_shifted, sum_turned, near_a, costs_may_enter, length-costs_of, lies_within, AreFirstsAbove, IsOneToOne, IsRowAbove, chosen_sum, first_entered, number_of}
use Rattle.asg_monoids.specs.laws.NarrowObjectives.{PassesNegative-narrow}
use Rattle.asg_values.specs.laws.LiveCells.{column_of_live, live_cell}
use Rattle.asg_values.specs.laws.Options.{there_unless}
use Rattle.asg_model.proofs.Kit.{same_Some}

-- ---- rows

-- what was tested of a row's parts holds of its live cells
pub row_above : (objective : Objective) (X : Problem) (r fall : ℕ) (rises : List ℕ) (firsts seconds : List ℤ) → AreRowParts X r firsts seconds → length rises ≡ length X.columns → ((c : ℕ) (cost : Cost) → c < length rises → table_cost seconds c (slice_index_or firsts c absent) ≡ Some cost → fall ≤ sum_entered objective cost + slice_index rises c) → IsRowAbove objective X r fall rises
row_above objective X r fall rises firsts seconds parts over each c x live =
    let there = column_of_live X r c x live in
    each c x (omega (arith, there, over)) (sym (parts.costs c there) ∙ (live_cell X r c x live).2)

-- a fall that is no greater holds too
pub row_below : (objective : Objective) (X : Problem) (r before fall : ℕ) (rises : List ℕ) → IsRowAbove objective X r before rises → fall ≤ before → IsRowAbove objective X r fall rises
row_below objective X r before fall rises above low c x live = omega (arith, above c x live, low)

-- ---- sums

one_is : (x y : ℤ) → One x ≡ One y → x ≡ y
one_is x y e = cc

-- the chosen costs come to the number that is made of their sum
pub comes_to : (objective : Objective) (X : Problem) (f : List (Option ℕ)) (z : ℤ) → IsTrue (is_narrow_objective objective) → IsInstance X → IsOneToOne X → IsValid X f → choice_value objective X f ≡ One z → pos (chosen_sum objective X f) ≡ number_of objective (length X.rows) z
comes_to Sum X f z narrow instance one_to_one valid value =
    let may = costs_may_enter Sum cost_reach X f (lies_within cost_reach X (omega arith) instance) (PassesNegative-narrow Sum X narrow) in
    let shift = (sum_shifted (λ cost. cost.a) (costs_of X f) (near_a Sum (costs_of X f) may)).0 in
    let count : length (costs_of X f) ≡ length X.rows = length-costs_of X f valid ∙ one_to_one.all in
    let is : total (first_parts (costs_of X f)) ≡ z = one_is (total (first_parts (costs_of X f))) z value in
    shift ∙ ap (λ t. t +ℤ pos (cost_reach * length (costs_of X f))) is ∙ ap (λ n. z +ℤ pos (cost_reach * n)) count
comes_to SumMax X f z narrow instance one_to_one valid value =
    let may = costs_may_enter SumMax cost_reach X f (lies_within cost_reach X (omega arith) instance) (PassesNegative-narrow SumMax X narrow) in
    let turn = (sum_turned (λ cost. cost.a) (costs_of X f) (near_a SumMax (costs_of X f) may)).0 in
    let count : length (costs_of X f) ≡ length X.rows = length-costs_of X f valid ∙ one_to_one.all in
    let is : total (first_parts (costs_of X f)) ≡ z = one_is (total (first_parts (costs_of X f))) z value in
    turn ∙ ap (λ t. pos (cost_reach * length (costs_of X f)) -ℤ t) is ∙ ap (λ n. pos (cost_reach * n) -ℤ z) count
comes_to _ X f z narrow instance one_to_one valid value = absurd (let no_such = narrow in cc)

-- so that what was tested of it holds of them
pub balanced : (objective : Objective) (X : Problem) (f : List (Option ℕ)) (z : ℤ) (falls rises : List ℕ) → IsTrue (is_narrow_objective objective) → IsInstance X → IsOneToOne X → IsValid X f → choice_value objective X f ≡ One z → (number_of objective (length X.rows) z +ℤ pos (sum rises)) ≤ℤ pos (sum falls) → chosen_sum objective X f + sum rises ≤ sum falls
balanced objective X f z falls rises narrow instance one_to_one valid value test =
    let is = comes_to objective X f z narrow instance one_to_one valid value in
    let moved : (pos (chosen_sum objective X f) +ℤ pos (sum rises)) ≤ℤ pos (sum falls) = subst (λ n. (n +ℤ pos (sum rises)) ≤ℤ pos (sum falls)) (sym is) test in
    omega (arith, ints, moved)

-- ---- first parts

-- what a cost enters as by its first part is no more than what it enters as
pub entered_first : (objective : Objective) (cost : Cost) → first_entered objective cost.a ≤ sum_entered objective cost
entered_first Sum cost = omega arith
entered_first SumMax cost = omega arith
entered_first _ cost = omega arith

-- what was tested of first parts holds of the costs that have them
pub firsts_hold : (objective : Objective) (firsts seconds : List ℤ) (fall : ℕ) (rises : List ℕ) → AreFirstsAbove objective firsts fall rises → (c : ℕ) (cost : Cost) → c < length rises → table_cost seconds c (slice_index_or firsts c absent) ≡ Some cost → fall ≤ sum_entered objective cost + slice_index rises c
firsts_hold objective firsts seconds fall rises above c cost within e =
    let a = slice_index_or firsts c absent in
    let made : Cost = record { a = a; b = slice_index_or seconds c (pos 0) } in
    let low = above c within in
    let first = entered_first objective made in
    let whole : fall ≤ sum_entered objective made + slice_index rises c = omega (arith, low, first) in
    subst (λ (x : Cost). fall ≤ sum_entered objective x + slice_index rises c) (same_Some made cost (there_unless (int_eq a absent) (Some made) cost e).1) whole
