-- How far sums of entered costs reach.
use Rattle.std.proofs.Common.{◌≡◌, ℕ, ◌<◌, ◌≤◌, ◌^◌, List, length, arith}
use Rattle.std.specs.Prelude.{All, sum_by}
use Rattle.std.proofs.lemmas.Bool.Decides.{nat_tests}
use Rattle.std.proofs.lemmas.Int.{ints}
use Rattle.asg_model.specs.declared.parts.Cost.{Cost}
use Rattle.asg_model.specs.declared.objectives.Objective.TheVariants.{Sum, SumMax, SumPair}
use Rattle.asg_model.specs.Limits.{most_rows}
use Rattle.asg_order.specs.Entering.{MayEnter}
use Rattle.asg_order.specs.Bridge.{costs_fold}
use Rattle.asg_order.specs.Monoid.{IsValue}
use Rattle.asg_monoids.specs.BoundedSums.{bounded_sums, narrow_top}
use Rattle.asg_monoids.specs.Entered.{cost_reach, sum_entered}
use Rattle.asg_monoids.specs.laws.SumFolds.{sum_shifted, sum_turned, sum_paired}
use Rattle.asg_monoids.specs.laws.SumOrders.{fold_is, near_a, near_b}

-- sums of `sum` and `sum-max` stay below 2^41, and those of `pair` below 2^84
pub sum_in_range : (u : List Cost) → length u ≤ most_rows → All (MayEnter Sum cost_reach) u → costs_fold (bounded_sums (2 ^ 120)) (sum_entered Sum) u < 2 ^ 41
sum_in_range u few may =
    let s = sum_shifted (λ cost. cost.a) u (near_a Sum u may) in
    let lt : sum_by (sum_entered Sum) u < 2 ^ 120 = omega (arith, s.1, few) in
    omega (arith, s.1, few, fold_is (2 ^ 120) (sum_entered Sum) u lt)

pub sum_max_in_range : (u : List Cost) → length u ≤ most_rows → All (MayEnter SumMax cost_reach) u → costs_fold (bounded_sums (2 ^ 120)) (sum_entered SumMax) u < 2 ^ 41
sum_max_in_range u few may =
    let s = sum_turned (λ cost. cost.a) u (near_a SumMax u may) in
    let lt : sum_by (sum_entered SumMax) u < 2 ^ 120 = omega (arith, s.1, few) in
    omega (arith, s.1, few, fold_is (2 ^ 120) (sum_entered SumMax) u lt)

pub pair_in_range : (u : List Cost) → length u ≤ most_rows → All (MayEnter SumPair cost_reach) u → costs_fold (bounded_sums (2 ^ 120)) (sum_entered SumPair) u < 2 ^ 84
pair_in_range u few may =
    let a = sum_shifted (λ cost. cost.a) u (near_a SumPair u may) in
    let b = sum_shifted (λ cost. cost.b) u (near_b SumPair u may) in
    let p = sum_paired u in
    let lt : sum_by (sum_entered SumPair) u < 2 ^ 120 = omega (arith, p, a.1, b.1, few) in
    omega (arith, p, a.1, b.1, few, fold_is (2 ^ 120) (sum_entered SumPair) u lt)

-- a sum below the lesser of two tops is the same by both
same_below : (low high : ℕ) (enter : Cost → ℕ) (u : List Cost) → sum_by enter u < low → low ≤ high → (costs_fold (bounded_sums low) enter u ≡ costs_fold (bounded_sums high) enter u) × (costs_fold (bounded_sums low) enter u < low)
same_below low high enter u lt le =
    let at_low = fold_is low enter u lt in
    let at_high = fold_is high enter u (omega arith) in
    (omega (arith, at_low, at_high), omega (arith, at_low))

-- sums of `sum` and `sum-max` are the same where they stop at 2^62, which they stay below
pub sum_is_narrow : (u : List Cost) → length u ≤ most_rows → All (MayEnter Sum cost_reach) u → (costs_fold (bounded_sums narrow_top) (sum_entered Sum) u ≡ costs_fold (bounded_sums (2 ^ 120)) (sum_entered Sum) u) × (costs_fold (bounded_sums narrow_top) (sum_entered Sum) u < narrow_top)
sum_is_narrow u few may =
    let s = sum_shifted (λ cost. cost.a) u (near_a Sum u may) in
    same_below narrow_top (2 ^ 120) (sum_entered Sum) u (omega (arith, s.1, few)) (omega arith)

pub sum_max_is_narrow : (u : List Cost) → length u ≤ most_rows → All (MayEnter SumMax cost_reach) u → (costs_fold (bounded_sums narrow_top) (sum_entered SumMax) u ≡ costs_fold (bounded_sums (2 ^ 120)) (sum_entered SumMax) u) × (costs_fold (bounded_sums narrow_top) (sum_entered SumMax) u < narrow_top)
sum_max_is_narrow u few may =
    let s = sum_turned (λ cost. cost.a) u (near_a SumMax u may) in
    same_below narrow_top (2 ^ 120) (sum_entered SumMax) u (omega (arith, s.1, few)) (omega arith)

-- each cost of `sum` and `sum-max` that may enter does so as a number up to 2^62
pub sum_enters_narrow : (cost : Cost) → MayEnter Sum cost_reach cost → IsValue (bounded_sums narrow_top) (sum_entered Sum cost)
sum_enters_narrow cost may = let a = may.within.a_within in grind (arith, ints, nat_tests)

pub sum_max_enters_narrow : (cost : Cost) → MayEnter SumMax cost_reach cost → IsValue (bounded_sums narrow_top) (sum_entered SumMax cost)
sum_max_enters_narrow cost may = let a = may.within.a_within in grind (arith, ints, nat_tests)
