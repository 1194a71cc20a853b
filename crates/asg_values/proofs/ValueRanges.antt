-- The value of at most 1,000 costs in range is in the objective's range.
use Rattle.asg_values.proofs.Common.{ℕ, ◌+◌, ◌*◌, ◌≤◌, Bool, List, [], ◌∷◌, length, ℤ, pos, ◌+ℤ◌, ◌-ℤ◌, ◌≤ℤ◌, unsigned_abs, fold, All, filter, int_eq, arith, All-filter, All-head, All-map, All-permutation, All-tail, All-weaker, count_by-le-length, int_max, int_min, ints, length-filter, length-map, length_permutation, descending, greatest, least, IsCostInRange, most_cost, most_rows, IsPartInRange, IsSumInRange, IsValueInRange, first_parts, second_parts, total, costs_at, value_of, Objective, Sum, SumMax, SumPair, Capped, Bottleneck, BottleneckMax, TimeCost, Balanced, Lex, Cost}
use Rattle.asg_values.proofs.DescendingLists.{IsPermutation-descending}
use Rattle.asg_values.proofs.ExtremeBounds.{greatest-bounds, least-bounds}
use Rattle.asg_values.proofs.Steps.{int_max-in_range, int_min-in_range, unsigned_abs-add}

-- a sum is no further from 0 than its start and the greatest part for each number
fold-sum-bound : (start : ℤ) (xs : List ℤ) → All IsPartInRange xs → unsigned_abs (fold ◌+ℤ◌ start xs) ≤ unsigned_abs start + most_cost * length xs
fold-sum-bound start [] all = omega arith
fold-sum-bound start (x ∷ xs) all =
    let rest = fold-sum-bound (start +ℤ x) xs (All-tail IsPartInRange x xs all) in
    let here = All-head IsPartInRange x xs all in
    let step = unsigned_abs-add start x in
    omega (arith, rest, here, step)

total-in_range : (xs : List ℤ) → length xs ≤ most_rows → All IsPartInRange xs → IsSumInRange (total xs)
total-in_range xs few all = let bound = fold-sum-bound (pos 0) xs all in omega (arith, bound, few)

fold-max-in_range : (start : ℤ) (xs : List ℤ) → IsPartInRange start → All IsPartInRange xs → IsPartInRange (fold int_max start xs)
fold-max-in_range start [] here all = here
fold-max-in_range start (x ∷ xs) here all =
    fold-max-in_range (int_max start x) xs (int_max-in_range start x most_cost here (All-head IsPartInRange x xs all)) (All-tail IsPartInRange x xs all)

fold-min-in_range : (start : ℤ) (xs : List ℤ) → IsPartInRange start → All IsPartInRange xs → IsPartInRange (fold int_min start xs)
fold-min-in_range start [] here all = here
fold-min-in_range start (x ∷ xs) here all =
    fold-min-in_range (int_min start x) xs (int_min-in_range start x most_cost here (All-head IsPartInRange x xs all)) (All-tail IsPartInRange x xs all)

greatest-in_range : (xs : List ℤ) → All IsPartInRange xs → IsPartInRange (greatest xs)
greatest-in_range [] all = omega arith
greatest-in_range (x ∷ xs) all = fold-max-in_range x xs (All-head IsPartInRange x xs all) (All-tail IsPartInRange x xs all)

least-in_range : (xs : List ℤ) → All IsPartInRange xs → IsPartInRange (least xs)
least-in_range [] all = omega arith
least-in_range (x ∷ xs) all = fold-min-in_range x xs (All-head IsPartInRange x xs all) (All-tail IsPartInRange x xs all)

least-le-greatest : (xs : List ℤ) → least xs ≤ℤ greatest xs
least-le-greatest [] = omega (arith, ints)
least-le-greatest (x ∷ xs) =
    at_most_through (least (x ∷ xs)) x (greatest (x ∷ xs)) (All-head (λ y. least (x ∷ xs) ≤ℤ y) x xs (least-bounds (x ∷ xs))) (All-head (λ y. y ≤ℤ greatest (x ∷ xs)) x xs (greatest-bounds (x ∷ xs)))
  where
    at_most_through : (x y z : ℤ) → x ≤ℤ y → y ≤ℤ z → x ≤ℤ z
    at_most_through x y z h k = omega (arith, ints)

-- how far apart two numbers in range may be
spread-in_range : (low high : ℤ) → low ≤ℤ high → IsPartInRange low → IsPartInRange high → (pos 0 ≤ℤ (high -ℤ low)) × ((high -ℤ low) ≤ℤ pos (2 * most_cost))
spread-in_range low high order near_low near_high = (grind (arith, ints), grind (arith, ints))

-- the lesser of a sum and a cap
capped-in_range : (cap : ℕ) (x : ℤ) → IsSumInRange x → IsSumInRange (int_min (pos cap) x) × (int_min (pos cap) x ≤ℤ pos cap)
capped-in_range cap x near = (grind (arith, ints), grind (arith, ints))

count_le : (p : Cost → Bool) (costs : List Cost) → length (filter p costs) ≤ length costs
count_le p costs = omega (arith, length-filter p costs, count_by-le-length p costs)

first_parts-in_range : (costs : List Cost) → All IsCostInRange costs → All IsPartInRange (first_parts costs)
first_parts-in_range costs all = All-map IsPartInRange (λ cost. cost.a) costs (All-weaker IsCostInRange (λ cost. IsPartInRange cost.a) (λ cost near. near.a_in_range) costs all)

second_parts-in_range : (costs : List Cost) → All IsCostInRange costs → All IsPartInRange (second_parts costs)
second_parts-in_range costs all = All-map IsPartInRange (λ cost. cost.b) costs (All-weaker IsCostInRange (λ cost. IsPartInRange cost.b) (λ cost near. near.b_in_range) costs all)

module _ (costs : List Cost) (few : length costs ≤ most_rows) (all : All IsCostInRange costs) where
  first_total : IsSumInRange (total (first_parts costs))
  first_total = total-in_range (first_parts costs) (omega (arith, few, length-map costs (λ (cost : Cost). cost.a))) (first_parts-in_range costs all)

  second_total : IsSumInRange (total (second_parts costs))
  second_total = total-in_range (second_parts costs) (omega (arith, few, length-map costs (λ (cost : Cost). cost.b))) (second_parts-in_range costs all)

  greatest_part : IsPartInRange (greatest (first_parts costs))
  greatest_part = greatest-in_range (first_parts costs) (first_parts-in_range costs all)

  least_part : IsPartInRange (least (first_parts costs))
  least_part = least-in_range (first_parts costs) (first_parts-in_range costs all)

-- the value of at most 1,000 costs in range is in range
pub value_of-in_range : (objective : Objective) (costs : List Cost) → length costs ≤ most_rows → All IsCostInRange costs → IsValueInRange objective (value_of objective costs)
value_of-in_range Sum costs few all = first_total costs few all
value_of-in_range SumMax costs few all = first_total costs few all
value_of-in_range SumPair costs few all = (first_total costs few all, second_total costs few all)
value_of-in_range (Capped cap) costs few all = capped-in_range cap (total (first_parts costs)) (first_total costs few all)
value_of-in_range Bottleneck costs few all = greatest_part costs few all
value_of-in_range BottleneckMax costs few all = least_part costs few all
value_of-in_range TimeCost costs few all =
    let top = greatest (first_parts costs) in
    let at_top = λ (cost : Cost). int_eq cost.a top in (
      greatest_part costs few all,
      second_total (costs_at top costs) (omega (arith, few, count_le at_top costs)) (All-filter at_top IsCostInRange costs all),
    )
value_of-in_range Balanced costs few all =
    let parts = first_parts costs in
    spread-in_range (least parts) (greatest parts) (least-le-greatest parts) (least_part costs few all) (greatest_part costs few all)
value_of-in_range Lex costs few all =
    let parts = first_parts costs in
    let moved = IsPermutation-descending parts in (
      omega (arith, few, length_permutation parts (descending parts) moved, length-map costs (λ (cost : Cost). cost.a)),
      All-permutation IsPartInRange parts (descending parts) moved (first_parts-in_range costs all),
    )
