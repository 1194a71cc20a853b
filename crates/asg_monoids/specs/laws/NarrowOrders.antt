-- Entering sums in 64 bits keeps the order of values, for `sum` and `sum-max`.
use Rattle.std.proofs.Common.{◌≡◌, ℕ, ◌<◌, ◌≤◌, ◌^◌, List, length, Option, arith, sym, subst, is_some}
use Rattle.std.specs.Prelude.{All, sum_by, true, ◌↔◌}
use Rattle.std.proofs.lemmas.Bool.Decides.{nat_tests}
use Rattle.std.proofs.lemmas.Int.{ints}
use Rattle.std.proofs.lemmas.List.Sums.{count_by-le-length}
use Rattle.asg_model.specs.declared.parts.Cost.{Cost}
use Rattle.asg_model.specs.declared.objectives.Objective.{Objective}
use Rattle.asg_model.specs.declared.objectives.Objective.TheVariants.{Sum, SumMax}
use Rattle.asg_model.specs.Limits.{most_rows}
use Rattle.asg_model.specs.Problem.{Problem}
use Rattle.asg_model.specs.Refused.{PassesNegative}
use Rattle.asg_model.specs.ValidChoice.{IsValid}
use Rattle.asg_model.specs.Values.{costs_of}
use Rattle.asg_order.specs.Monoid.{IsLess, IsValue}
use Rattle.asg_order.specs.Entering.{LiesWithin, MayEnter}
use Rattle.asg_order.specs.Bridge.{KeepsOrder, choice_fold, costs_fold}
use Rattle.asg_order.specs.laws.ChosenCosts.{costs_may_enter, length-costs_of}
use Rattle.asg_monoids.specs.BoundedSums.{bounded_sums, narrow_top}
use Rattle.asg_monoids.specs.Entered.{cost_reach, sum_entered}
use Rattle.asg_monoids.specs.NarrowObjectives.{is_narrow_objective}
use Rattle.asg_monoids.specs.laws.SumFolds.{sum_shifted, sum_turned}
use Rattle.asg_monoids.specs.laws.SumOrders.{fold_is, near_a, sums_keep_order}

-- the product of costs in sums that stop at 2^62, and in those that stop at 2^120
narrow : Objective → List Cost → ℕ
narrow objective u = costs_fold (bounded_sums narrow_top) (sum_entered objective) u

wide : Objective → List Cost → ℕ
wide objective u = costs_fold (bounded_sums (2 ^ 120)) (sum_entered objective) u

-- a sum below 2^62 is the same by both
same_below : (objective : Objective) (u : List Cost) → sum_by (sum_entered objective) u < narrow_top → narrow objective u ≡ wide objective u
unfolding narrow wide
same_below objective u lt =
    let at_low = fold_is narrow_top (sum_entered objective) u lt in
    let at_high = fold_is (2 ^ 120) (sum_entered objective) u (omega (arith, lt)) in
    omega (arith, at_low, at_high)

-- sums of `sum` and `sum-max` are the same where they stop at 2^62, which they stay below
same : (objective : Objective) (u : List Cost) → is_narrow_objective objective ≡ true → length u ≤ most_rows → All (MayEnter objective cost_reach) u → narrow objective u ≡ wide objective u
same Sum u is few may =
    let s = sum_shifted (λ cost. cost.a) u (near_a Sum u may) in
    same_below Sum u (omega (arith, s.1, few))
same SumMax u is few may =
    let s = sum_turned (λ cost. cost.a) u (near_a SumMax u may) in
    same_below SumMax u (omega (arith, s.1, few))
same _ u is few may = absurd (cc)

-- a valid choice has the same product by both, where the instance has no more rows than it may
-- have, and its live costs lie within the reach and pass the objective
pub narrow_product : (objective : Objective) (X : Problem) (choice : List (Option ℕ)) → is_narrow_objective objective ≡ true → length X.rows ≤ most_rows → LiesWithin cost_reach X → PassesNegative objective X → IsValid X choice
    → choice_fold (bounded_sums (2 ^ 120)) (sum_entered objective) X choice ≡ choice_fold (bounded_sums narrow_top) (sum_entered objective) X choice
unfolding narrow wide
narrow_product objective X choice is few near passes valid =
    sym (same objective (costs_of X choice) is
    (omega (arith, length-costs_of X choice valid, valid.counted, valid.over, count_by-le-length is_some choice, few))
    (costs_may_enter objective cost_reach X choice near passes))

-- of equal numbers, the one is strictly less by the narrow sums exactly where it is by the wide
less_is : {Better : Type 0} (x y p q : ℕ) → x ≡ p → y ≡ q → Better ↔ IsLess (bounded_sums (2 ^ 120)) p q → Better ↔ IsLess (bounded_sums narrow_top) x y
less_is {Better} x y p q ex ey better =
    subst (λ a. Better ↔ IsLess (bounded_sums narrow_top) a y) (sym ex)
    (subst (λ b. Better ↔ IsLess (bounded_sums narrow_top) p b) (sym ey) better)

pub wide_order : (objective : Objective) → is_narrow_objective objective ≡ true → KeepsOrder (bounded_sums (2 ^ 120)) (sum_entered objective) objective cost_reach
wide_order Sum is = sums_keep_order Sum is
wide_order SumMax is = sums_keep_order SumMax is
wide_order _ is = absurd (cc)

-- entering sums in 64 bits keeps the order of values
pub narrow_keep_order : (objective : Objective) → is_narrow_objective objective ≡ true → KeepsOrder (bounded_sums narrow_top) (sum_entered objective) objective cost_reach
unfolding narrow wide
narrow_keep_order objective is u v len few may_u may_v =
    less_is (narrow objective u) (narrow objective v) (wide objective u) (wide objective v)
    (same objective u is few may_u)
    (same objective v is (omega (arith, few, len)) may_v)
    (wide_order objective is u v len few may_u may_v)

-- a cost that may enter does so as a number up to 2^62
pub narrow_enter_values : (objective : Objective) (cost : Cost) → is_narrow_objective objective ≡ true → MayEnter objective cost_reach cost → IsValue (bounded_sums narrow_top) (sum_entered objective cost)
narrow_enter_values Sum cost is may = let a = may.within.a_within in grind (arith, ints, nat_tests)
narrow_enter_values SumMax cost is may = let a = may.within.a_within in grind (arith, ints, nat_tests)
narrow_enter_values _ cost is may = absurd (cc)
