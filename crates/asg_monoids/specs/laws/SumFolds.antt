-- Sums of entered costs against sums of costs.
use Rattle.std.proofs.Common.{◌≡◌, ℕ, ◌+◌, ◌*◌, ◌≤◌, ◌^◌, min, List, [], ◌∷◌, length, map, arith, refl, ℤ, pos, ◌+ℤ◌, ◌-ℤ◌}
use Rattle.std.specs.Prelude.{All, fold, sum, sum_by, unsigned_abs, int_lt, false}
use Rattle.std.proofs.lemmas.Int.{ints}
use Rattle.std.proofs.lemmas.List.Elements.{All-head, All-tail}
use Rattle.std.proofs.lemmas.List.Sums.{sum_by-cons}
use Rattle.asg_model.specs.declared.parts.Cost.{Cost}
use Rattle.asg_model.specs.declared.objectives.Objective.TheVariants.{SumPair, Capped}
use Rattle.asg_model.specs.Values.{first_parts, total}
use Rattle.asg_order.specs.Monoid.{fold_of}
use Rattle.asg_monoids.specs.BoundedSums.{bounded_sums}
use Rattle.asg_monoids.specs.Entered.{cost_reach, shifted, turned, sum_entered}

bounded_fold_from : (top a : ℕ) (xs : List ℕ) → a ≤ top → fold (bounded_sums top).product a xs ≡ min (a + sum xs) top
bounded_fold_from top a [] le = omega arith
bounded_fold_from top a (x ∷ xs) le =
    let e = bounded_fold_from top (min (a + x) top) xs (omega arith) in
    let s = sum_by-cons (λ y. y) x xs in
    omega (arith, e, s)

-- a bounded sum of a list is its sum, cut at the top
pub bounded_fold : (top : ℕ) (xs : List ℕ) → fold_of (bounded_sums top) xs ≡ min (sum xs) top
bounded_fold top xs = omega (arith, bounded_fold_from top 0 xs (omega arith))

total_from : (a : ℤ) (xs : List ℤ) → fold ◌+ℤ◌ a xs ≡ a +ℤ total xs
total_from a [] = omega (arith, ints)
total_from a (x ∷ xs) = omega (arith, ints, total_from (a +ℤ x) xs, total_from (pos 0 +ℤ x) xs)

-- one more number in front of a sum
pub total-cons : (x : ℤ) (xs : List ℤ) → total (x ∷ xs) ≡ x +ℤ total xs
total-cons x xs = omega (arith, ints, total_from (pos 0 +ℤ x) xs)

-- where each of equally many numbers is a part shifted, so is their sum, by as many shifts
pub sum_shifted : (part : Cost → ℤ) (u : List Cost) → All (λ cost. unsigned_abs (part cost) ≤ cost_reach) u → (pos (sum_by (λ cost. shifted (part cost)) u) ≡ total (map part u) +ℤ pos (cost_reach * length u)) × (sum_by (λ cost. shifted (part cost)) u ≤ 2000000000 * length u)
sum_shifted part [] near = (refl, omega arith)
sum_shifted part (cost ∷ u) near =
    let here = All-head (λ cost. unsigned_abs (part cost) ≤ cost_reach) cost u near in
    let rest = sum_shifted part u (All-tail (λ cost. unsigned_abs (part cost) ≤ cost_reach) cost u near) in
    let s = sum_by-cons (λ cost. shifted (part cost)) cost u in
    let t = total-cons (part cost) (map part u) in
    (omega (arith, ints, here, rest.0, s, t), omega (arith, ints, here, rest.1, s))

-- the same, where each number is a part turned round and shifted
pub sum_turned : (part : Cost → ℤ) (u : List Cost) → All (λ cost. unsigned_abs (part cost) ≤ cost_reach) u → (pos (sum_by (λ cost. turned (part cost)) u) ≡ pos (cost_reach * length u) -ℤ total (map part u)) × (sum_by (λ cost. turned (part cost)) u ≤ 2000000000 * length u)
sum_turned part [] near = (refl, omega arith)
sum_turned part (cost ∷ u) near =
    let here = All-head (λ cost. unsigned_abs (part cost) ≤ cost_reach) cost u near in
    let rest = sum_turned part u (All-tail (λ cost. unsigned_abs (part cost) ≤ cost_reach) cost u near) in
    let s = sum_by-cons (λ cost. turned (part cost)) cost u in
    let t = total-cons (part cost) (map part u) in
    (omega (arith, ints, here, rest.0, s, t), omega (arith, ints, here, rest.1, s))

-- the sum of pairs in one number is one number of the sums
pub sum_paired : (u : List Cost) → sum_by (sum_entered SumPair) u ≡ sum_by (λ cost. shifted cost.a) u * 2 ^ 42 + sum_by (λ cost. shifted cost.b) u
sum_paired [] = refl
sum_paired (cost ∷ u) =
    let rest = sum_paired u in
    let s = sum_by-cons (sum_entered SumPair) cost u in
    let a = sum_by-cons (λ cost. shifted cost.a) cost u in
    let b = sum_by-cons (λ cost. shifted cost.b) cost u in
    omega (arith, rest, s, a, b)

-- the sum of costs from 0 on is that of their absolute values
pub total_plain : (u : List Cost) → All (λ cost. int_lt cost.a (pos 0) ≡ false) u → total (first_parts u) ≡ pos (sum_by (λ cost. unsigned_abs cost.a) u)
total_plain [] plain = refl
total_plain (cost ∷ u) plain =
    let here = All-head (λ cost. int_lt cost.a (pos 0) ≡ false) cost u plain in
    let rest = total_plain u (All-tail (λ cost. int_lt cost.a (pos 0) ≡ false) cost u plain) in
    let s = sum_by-cons (λ cost. unsigned_abs cost.a) cost u in
    let t = total-cons cost.a (first_parts u) in
    grind (arith, ints, here, rest, s, t)

-- cut at the cap, it makes no difference whether each part was cut too
pub sum_capped : (cap : ℕ) (u : List Cost) → min (sum_by (sum_entered (Capped cap)) u) cap ≡ min (sum_by (λ cost. unsigned_abs cost.a) u) cap
sum_capped cap [] = refl
sum_capped cap (cost ∷ u) =
    let rest = sum_capped cap u in
    let s = sum_by-cons (sum_entered (Capped cap)) cost u in
    let t = sum_by-cons (λ cost. unsigned_abs cost.a) cost u in
    omega (arith, rest, s, t)
