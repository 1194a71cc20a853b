-- Of two answers the better one has the lesser sum.
use Rattle.asg_dual_bounds.proofs.Common.{◌≡◌, ℕ, zero, suc, ◌+◌, ◌^◌, ◌<◌, ◌≤◌, true, ◌↔◌, List, map, length, pos, IfSome, slice_get, Some, None, All, sum_by, Option, option_to_list, filter_map, option_and_then, unwrap_or, sym, refl, ap, ◌∙◌, arith, All-weaker, ints, length-map, length-map-range_with_len, nat_tests, option_map_or, range_with_len, sum-map, sum_by-append, sum_by-le, choice_of, chosen_number, sum_at, IsAnswer, IsInstance, live_at, Problem, sum_below, Objective, Sum, SumMax, Cost, sum_below-same, cost_reach, sum_entered, is_narrow_objective, costs_may_enter, IsBetterChoice}
use Rattle.asg_model.specs.Limits.{most_rows}
use Rattle.asg_model.specs.Values.{chosen_cost, costs_of}
use Rattle.asg_model.specs.laws.Listing.{all_there, filter_map-range_more, All-filter_map}
use Rattle.asg_order.specs.Bridge.{costs_fold}
use Rattle.asg_order.specs.Entering.{MayEnter}
use Rattle.asg_order.specs.Monoid.{IsLess}
use Rattle.asg_monoids.specs.BoundedSums.{bounded_sums}
use Rattle.asg_monoids.specs.laws.SumFolds.{bounded_fold}
use Rattle.asg_dual_bounds.proofs.Answers.{answer_cost}
use Rattle.asg_dual_bounds.proofs.PlainChoices.{chooses-from_columns}
use Rattle.asg_monoids.specs.laws.NarrowObjectives.{PassesNegative-narrow}
use Rattle.asg_monoids.specs.laws.NarrowOrders.{wide_order}

abbrev top : ℕ
top = 2 ^ 120

-- ---- the objectives

number-le : (objective : Objective) (cost : Cost) → is_narrow_objective objective ≡ true → MayEnter objective cost_reach cost → sum_entered objective cost ≤ 2000000000
number-le Sum cost is may = let a = may.within.a_within in omega (arith, ints, a)
number-le SumMax cost is may = let a = may.within.a_within in omega (arith, ints, a)
number-le _ cost is may = absurd (cc)

-- ---- sums of lists of costs

-- the numbers of costs that are given at places
sum_places : (enter : Cost → ℕ) (h : ℕ → Option Cost) (n : ℕ) → sum_by enter (filter_map h (range_with_len 0 n)) ≡ sum_below (λ r. option_map_or enter (h r) 0) n
sum_places enter h zero = refl
sum_places enter h (suc n) =
    ap (λ (k : ℕ). sum_by enter (filter_map h (range_with_len 0 k))) one_more
    ∙ ap (sum_by enter) (filter_map-range_more h n)
    ∙ sum_by-append enter (filter_map h (range_with_len 0 n)) (option_to_list (h n))
    ∙ both (sum_places enter h n) (h n)
  where
    one_more : suc n ≡ n + 1
    one_more = omega arith

    one : (o : Option Cost) → sum_by enter (option_to_list o) ≡ option_map_or enter o 0
    one None = refl
    one (Some cost) = omega arith

    both : sum_by enter (filter_map h (range_with_len 0 n)) ≡ sum_below (λ r. option_map_or enter (h r) 0) n → (o : Option Cost) → sum_by enter (filter_map h (range_with_len 0 n)) + sum_by enter (option_to_list o) ≡ sum_below (λ r. option_map_or enter (h r) 0) n + option_map_or enter o 0
    both rest o = let last = one o in omega (arith, rest, last)

-- below the top the product is the sum
fold_is : (enter : Cost → ℕ) (u : List Cost) → sum_by enter u < top → costs_fold (bounded_sums top) enter u ≡ sum_by enter u
fold_is enter u lt = omega (arith, bounded_fold top (map enter u), sum-map enter u)

less_is : (x y p q : ℕ) → x ≡ p → y ≡ q → IsLess (bounded_sums top) x y ↔ (p < q)
less_is x y p q ex ey = (λ h. grind (arith, nat_tests), λ h. grind (arith, nat_tests))

-- ---- answers

abbrev no_cost : Cost
no_cost = record { a = pos 0; b = pos 0 }

module _ (objective : Objective) (X : Problem) (is_sum : is_narrow_objective objective ≡ true) (instance : IsInstance X) where
  abbrev enter : Cost → ℕ
  enter = sum_entered objective

  module _ (columns : List ℕ) (is : IsAnswer objective X columns) where
    abbrev costs : List Cost
    costs = costs_of X (choice_of columns)

    -- the cost of a row's cell
    cost_of : (r : ℕ) → r < length X.rows → (cost : Cost) × (chosen_cost X (choice_of columns) r ≡ Some cost) × (enter cost ≡ chosen_number objective X columns r)
    cost_of r h =
        let at = answer_cost objective X columns is r h in
        (at.0, ap (λ o. option_and_then (λ chosen. option_and_then (live_at X r) chosen) o) (chooses-from_columns columns r (omega (arith, h, is.over))) ∙ at.1, sym (ap (λ o. unwrap_or o 0) at.2))

    rows_are : length (choice_of columns) ≡ length X.rows
    rows_are = length-map columns Some ∙ is.over

    -- the sum of the numbers is that of the costs' numbers
    sum_is : sum_by enter costs ≡ sum_at objective X columns
    sum_is =
        sum_places enter (chosen_cost X (choice_of columns)) (length (choice_of columns))
        ∙ ap (sum_below (λ r. option_map_or enter (chosen_cost X (choice_of columns) r) 0)) rows_are
        ∙ sum_below-same (λ r. option_map_or enter (chosen_cost X (choice_of columns) r) 0) (chosen_number objective X columns) (length X.rows)
        (λ r h. let cost = cost_of r h in ap (λ o. option_map_or enter o 0) cost.1 ∙ cost.2)

    -- as many costs as rows
    costs_are : length costs ≡ length X.rows
    costs_are =
        ap length (all_there (chosen_cost X (choice_of columns)) (λ r. unwrap_or (chosen_cost X (choice_of columns) r) no_cost) 0 (length (choice_of columns)) there)
        ∙ length-map-range_with_len (λ r. unwrap_or (chosen_cost X (choice_of columns) r) no_cost) 0 (length (choice_of columns))
        ∙ rows_are
      where
        there : (r : ℕ) → 0 ≤ r → r < 0 + length (choice_of columns) → chosen_cost X (choice_of columns) r ≡ Some (unwrap_or (chosen_cost X (choice_of columns) r) no_cost)
        there r from below =
            let cost = cost_of r (omega (arith, below, rows_are)) in
            cost.1 ∙ ap (λ o. Some (unwrap_or o no_cost)) (sym cost.1)

    -- and each may enter
    may_enter : All (MayEnter objective cost_reach) costs
    may_enter =
        All-filter_map (chosen_cost X (choice_of columns)) (MayEnter objective cost_reach) each (range_with_len 0 (length (choice_of columns)))
      where
        live : (r : ℕ) (o : Option ℕ) → IfSome (option_and_then (live_at X r) o) (MayEnter objective cost_reach)
        live r None = tt
        live r (Some c) = costs_may_enter objective cost_reach X (omega arith) instance (PassesNegative-narrow objective X is_sum) r c

        chosen : (r : ℕ) (o : Option (Option ℕ)) → IfSome (option_and_then (λ chosen. option_and_then (live_at X r) chosen) o) (MayEnter objective cost_reach)
        chosen r None = tt
        chosen r (Some o) = live r o

        each : (r : ℕ) → IfSome (chosen_cost X (choice_of columns) r) (MayEnter objective cost_reach)
        each r = chosen r (slice_get (choice_of columns) r)

    few_costs : length costs ≤ most_rows
    few_costs = let few = instance.well_formed.few_rows in omega (arith, costs_are, few)

    below_top : sum_by enter costs < top
    below_top =
        let le = sum_by-le enter 2000000000 costs (All-weaker (MayEnter objective cost_reach) (λ cost. enter cost ≤ 2000000000) (λ cost may. number-le objective cost is_sum may) costs may_enter) in
        omega (arith, le, few_costs)

    -- their product is the answer's sum
    product_is : costs_fold (bounded_sums top) enter costs ≡ sum_at objective X columns
    product_is = fold_is enter costs below_top ∙ sum_is

  pub better_is : (f g : List ℕ) → IsAnswer objective X f → IsAnswer objective X g → IsBetterChoice objective X (choice_of f) (choice_of g) ↔ (sum_at objective X f < sum_at objective X g)
  better_is f g is_f is_g =
      let keeps = wide_order objective is_sum (costs_of X (choice_of f)) (costs_of X (choice_of g)) (costs_are f is_f ∙ sym (costs_are g is_g)) (few_costs f is_f) (may_enter f is_f) (may_enter g is_g) in
      let less = less_is (costs_fold (bounded_sums top) enter (costs_of X (choice_of f))) (costs_fold (bounded_sums top) enter (costs_of X (choice_of g))) (sum_at objective X f) (sum_at objective X g) (product_is f is_f) (product_is g is_g) in
      (λ b. less.0 (keeps.0 b), λ l. keeps.1 (less.1 l))
