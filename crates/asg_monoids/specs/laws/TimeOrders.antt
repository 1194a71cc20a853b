-- Entering graded sums keeps the order of the values of `time-cost`.
use Rattle.std.proofs.Common.{◌≡◌, ◌⊎◌, ℕ, ◌+◌, ◌*◌, ◌<◌, ◌≤◌, ◌^◌, Bool, true, false, cond, List, [], ◌∷◌, length, map, arith, refl, sym, ap, ◌∙◌, subst, ℤ, pos, ◌+ℤ◌}
use Rattle.std.specs.Prelude.{All, fold, unsigned_abs, ◌↔◌, ◌<ℤ◌}
use Rattle.std.specs.Int.{int_max}
use Rattle.std.specs.Ordering.{int_eq}
use Rattle.std.proofs.lemmas.Int.{ints, clamps}
use Rattle.std.proofs.lemmas.Bool.Decides.{nat_tests, Decides-int_eq}
use Rattle.std.proofs.lemmas.List.Elements.{All-nil, All-cons, All-head, All-tail, All-map, All-weaker}
use Rattle.asg_model.specs.declared.parts.Cost.{Cost}
use Rattle.asg_model.specs.declared.objectives.Objective.TheVariants.{TimeCost}
use Rattle.asg_model.specs.Values.{first_parts, second_parts, total, costs_at}
use Rattle.asg_model.specs.Extremes.{greatest}
use Rattle.asg_order.specs.Monoid.{IsLess, IsValue}
use Rattle.asg_order.specs.Entering.{MayEnter}
use Rattle.asg_order.specs.Bridge.{KeepsOrder, costs_fold}
use Rattle.asg_order.specs.laws.Products.{fold-cons}
use Rattle.asg_monoids.specs.BoundedSums.{bounded_sums}
use Rattle.asg_monoids.specs.laws.Bounded.{bounded_laws}
use Rattle.asg_monoids.specs.Grades.{graded, graded_product}
use Rattle.asg_monoids.specs.laws.Graded.{graded_laws, by_grades}
use Rattle.asg_monoids.specs.laws.SumFolds.{total-cons}
use Rattle.asg_monoids.specs.laws.SumOrders.{shifted_pairs}
use Rattle.asg_monoids.specs.Entered.{cost_reach, shifted, time_entered}

greatest_from : (x a : ℤ) (xs : List ℤ) → fold int_max (int_max x a) xs ≡ int_max x (fold int_max a xs)
greatest_from x a [] = refl
greatest_from x a (y ∷ ys) =
    let e : int_max (int_max x a) y ≡ int_max x (int_max a y) = omega (arith, ints, clamps) in
    ap (λ m. fold int_max m ys) e ∙ greatest_from x (int_max a y) ys

-- every part is below what is above the greatest
all_below : (a m : ℤ) (u : List Cost) → fold int_max m (first_parts u) <ℤ a → (m <ℤ a) × All (λ cost. cost.a <ℤ a) u
all_below a m [] h = (h, All-nil (λ cost. cost.a <ℤ a))
all_below a m (cost ∷ u) h =
    let rest = all_below a (int_max m cost.a) u h in
    (omega (arith, ints, clamps, rest.0), All-cons (λ cost. cost.a <ℤ a) cost u (omega (arith, ints, clamps, rest.0)) rest.1)

-- the sum of the second parts of the costs whose first part is a
total_at : ℤ → List Cost → ℤ
total_at a u = total (second_parts (costs_at a u))

kept : (a : ℤ) (b : Bool) (cost : Cost) (u : List Cost) → total (second_parts (cond b (cost ∷ costs_at a u) (costs_at a u))) ≡ cond b cost.b (pos 0) +ℤ total_at a u
unfolding total_at
kept a true cost u = total-cons cost.b (second_parts (costs_at a u))
kept a false cost u = omega (arith, ints)

total_at-cons : (a : ℤ) (cost : Cost) (u : List Cost) → total_at a (cost ∷ u) ≡ cond (int_eq cost.a a) cost.b (pos 0) +ℤ total_at a u
unfolding total_at
total_at-cons a cost u = kept a (int_eq cost.a a) cost u

total_at_other : (a : ℤ) (cost : Cost) (u : List Cost) → cost.a <ℤ a → total_at a (cost ∷ u) ≡ total_at a u
total_at_other a cost u lt =
    let d = Decides-int_eq cost.a a in
    let e = total_at-cons a cost u in
    grind (arith, ints, e, d)

total_at_same : (a : ℤ) (cost : Cost) (u : List Cost) → cost.a ≡ a → total_at a (cost ∷ u) ≡ cost.b +ℤ total_at a u
total_at_same a cost u same =
    let d : int_eq cost.a a ≡ true = (Decides-int_eq cost.a a).1 same in
    total_at-cons a cost u ∙ ap (λ b. cond b cost.b (pos 0) +ℤ total_at a u) d

total_at_none : (a : ℤ) (u : List Cost) → All (λ cost. cost.a <ℤ a) u → total_at a u ≡ pos 0
unfolding total_at
total_at_none a [] below = refl
total_at_none a (cost ∷ u) below =
    total_at_other a cost u (All-head (λ cost. cost.a <ℤ a) cost u below)
    ∙ total_at_none a u (All-tail (λ cost. cost.a <ℤ a) cost u below)

-- the product r of costs whose greatest first part is g: the part g, shifted, and the sum at g
record TimeFold (g : ℤ) (u : List Cost) (r : ℕ × ℕ) : Type 0 where
  grade : pos r.0 ≡ g +ℤ pos cost_reach
  amount : pos r.1 ≡ total_at g u
  small : r.1 ≤ cost_reach * length u

times : ℕ × ℕ → ℕ × ℕ → ℕ × ℕ
times x y = graded_product (bounded_sums (2 ^ 120)).product x y

times_lower : (x y : ℕ × ℕ) → x.0 < y.0 → times x y ≡ y
unfolding times
times_lower x y lt = grind (arith, nat_tests)

times_higher : (x y : ℕ × ℕ) → y.0 < x.0 → times x y ≡ x
unfolding times
times_higher x y lt = grind (arith, nat_tests)

times_same : (x y : ℕ × ℕ) → x.0 ≡ y.0 → x.1 + y.1 ≤ 2 ^ 120 → times x y ≡ (x.0, x.1 + y.1)
unfolding times
times_same x y same le = grind (arith, nat_tests)

moved : (g h : ℤ) (u : List Cost) (r s : ℕ × ℕ) → h ≡ g → s ≡ r → TimeFold g u r → TimeFold h u s
moved g h u r s eg er t = subst (λ k. TimeFold k u s) (sym eg) (subst (λ q. TimeFold g u q) (sym er) t)

plain_b : (cost : Cost) → MayEnter TimeCost cost_reach cost → pos (unsigned_abs cost.b) ≡ cost.b
plain_b cost may = let p = may.passes in grind (arith, ints)

one_more : (cost : Cost) (u : List Cost) (h : ℤ) (r : ℕ × ℕ) → MayEnter TimeCost cost_reach cost → ((a : ℤ) → h <ℤ a → All (λ c. c.a <ℤ a) u) → length u ≤ 1000 → TimeFold h u r → TimeFold (int_max cost.a h) (cost ∷ u) (times (time_entered cost) r)
one_more cost u h r may below few t =
    let here = may.within.a_within in
    let near = may.within.b_within in
    let b = plain_b cost may in
    let grade = t.grade in
    let amount = t.amount in
    let small = t.small in
    by_grades (shifted cost.a) r.0
    (λ lt.
    let under : cost.a <ℤ h = omega (arith, ints, here, grade) in
    moved h (int_max cost.a h) (cost ∷ u) r (times (time_entered cost) r) (omega (arith, ints, clamps)) (times_lower (time_entered cost) r lt)
    (record {
      grade = grade;
      amount = amount ∙ sym (total_at_other h cost u under);
      small = omega (arith, small);
    }))
    (λ lt.
    let over : h <ℤ cost.a = omega (arith, ints, here, grade) in
    moved cost.a (int_max cost.a h) (cost ∷ u) (time_entered cost) (times (time_entered cost) r) (omega (arith, ints, clamps)) (times_higher (time_entered cost) r lt)
    (record {
      grade = omega (arith, ints, here);
      amount = let e = total_at_same cost.a cost u refl in let n = total_at_none cost.a u (below cost.a over) in omega (arith, ints, b, e, n);
      small = omega (arith, near);
    }))
    (λ same.
    let level : cost.a ≡ h = omega (arith, ints, here, grade) in
    moved h (int_max cost.a h) (cost ∷ u) (shifted cost.a, unsigned_abs cost.b + r.1) (times (time_entered cost) r) (omega (arith, ints, clamps)) (times_same (time_entered cost) r same (omega (arith, small, near, few)))
    (record {
      grade = omega (arith, ints, grade, same);
      amount = let e = total_at_same h cost u level in omega (arith, ints, b, e, amount);
      small = omega (arith, small, near);
    }))

time_value : (cost : Cost) → MayEnter TimeCost cost_reach cost → IsValue (graded (bounded_sums (2 ^ 120))) (time_entered cost)
time_value cost may =
    let here = may.within.a_within in
    let near = may.within.b_within in
    grind (arith, ints, nat_tests)

times_values : (u : List Cost) → All (MayEnter TimeCost cost_reach) u → All (IsValue (graded (bounded_sums (2 ^ 120)))) (map time_entered u)
times_values u may =
    All-map (IsValue (graded (bounded_sums (2 ^ 120)))) time_entered u
    (All-weaker (MayEnter TimeCost cost_reach) (λ cost. IsValue (graded (bounded_sums (2 ^ 120))) (time_entered cost)) time_value u may)

fold_more : (cost : Cost) (u : List Cost) → All (MayEnter TimeCost cost_reach) (cost ∷ u) → costs_fold (graded (bounded_sums (2 ^ 120))) time_entered (cost ∷ u) ≡ times (time_entered cost) (costs_fold (graded (bounded_sums (2 ^ 120))) time_entered u)
unfolding times
fold_more cost u may =
    fold-cons (graded (bounded_sums (2 ^ 120))) (graded_laws (bounded_sums (2 ^ 120)) (bounded_laws (2 ^ 120))) (time_entered cost) (map time_entered u)
    (time_value cost (All-head (MayEnter TimeCost cost_reach) cost u may))
    (times_values u (All-tail (MayEnter TimeCost cost_reach) cost u may))

-- the product of costs: their greatest first part, shifted, and the sum of the second parts there
time_fold : (cost : Cost) (u : List Cost) → length u < 1000 → All (MayEnter TimeCost cost_reach) (cost ∷ u) → TimeFold (greatest (first_parts (cost ∷ u))) (cost ∷ u) (costs_fold (graded (bounded_sums (2 ^ 120))) time_entered (cost ∷ u))
time_fold cost [] few may =
    let m = All-head (MayEnter TimeCost cost_reach) cost [] may in
    let here = m.within.a_within in
    let near = m.within.b_within in
    let b = plain_b cost m in
    moved cost.a cost.a (cost ∷ []) (time_entered cost) (costs_fold (graded (bounded_sums (2 ^ 120))) time_entered (cost ∷ [])) refl
    ((graded_laws (bounded_sums (2 ^ 120)) (bounded_laws (2 ^ 120))).unit_neutral (time_entered cost) (time_value cost m))
    (record {
      grade = omega (arith, ints, here);
      amount = let e = total_at_same cost.a cost [] refl in let n = total_at_none cost.a [] (All-nil (λ c. c.a <ℤ cost.a)) in omega (arith, ints, b, e, n);
      small = omega (arith, near);
    })
time_fold cost (next ∷ u) few may =
    let rest = All-tail (MayEnter TimeCost cost_reach) cost (next ∷ u) may in
    let t = time_fold next u (omega (arith, few)) rest in
    moved (int_max cost.a (greatest (first_parts (next ∷ u)))) (greatest (first_parts (cost ∷ next ∷ u))) (cost ∷ next ∷ u)
    (times (time_entered cost) (costs_fold (graded (bounded_sums (2 ^ 120))) time_entered (next ∷ u)))
    (costs_fold (graded (bounded_sums (2 ^ 120))) time_entered (cost ∷ next ∷ u))
    (greatest_from cost.a next.a (first_parts u))
    (fold_more cost (next ∷ u) may)
    (one_more cost (next ∷ u) (greatest (first_parts (next ∷ u))) (costs_fold (graded (bounded_sums (2 ^ 120))) time_entered (next ∷ u))
    (All-head (MayEnter TimeCost cost_reach) cost (next ∷ u) may)
    (λ a lt. let b = all_below a next.a u lt in All-cons (λ c. c.a <ℤ a) next u b.0 b.1)
    (omega (arith, few)) t)

-- of pairs, one is strictly less exactly where it is less at the first difference
less_is : (x y : ℕ × ℕ) → IsLess (graded (bounded_sums (2 ^ 120))) x y ↔ ((x.0 < y.0) ⊎ ((x.0 ≡ y.0) × (x.1 < y.1)))
less_is x y = (λ h. grind (arith, nat_tests), λ h. grind (arith, nat_tests))

-- entering graded sums keeps the order of the values of `time-cost`
pub times_keep_order : KeepsOrder (graded (bounded_sums (2 ^ 120))) time_entered TimeCost cost_reach
unfolding total_at
times_keep_order [] [] same few may_u may_v = (λ h. absurd (grind (arith, ints)), λ h. absurd (cc))
times_keep_order [] (d ∷ v) same few may_u may_v = absurd (omega arith)
times_keep_order (c ∷ u) [] same few may_u may_v = absurd (omega arith)
times_keep_order (c ∷ u) (d ∷ v) same few may_u may_v =
    let x = costs_fold (graded (bounded_sums (2 ^ 120))) time_entered (c ∷ u) in
    let y = costs_fold (graded (bounded_sums (2 ^ 120))) time_entered (d ∷ v) in
    let tx = time_fold c u (omega (arith, few)) may_u in
    let ty = time_fold d v (omega (arith, few, same)) may_v in
    let g = greatest (first_parts (c ∷ u)) in
    let h = greatest (first_parts (d ∷ v)) in
    let parts = shifted_pairs cost_reach 0 x.0 x.1 y.0 y.1 g (total_at g (c ∷ u)) h (total_at h (d ∷ v))
    tx.grade (let e = tx.amount in omega (arith, ints, e)) ty.grade (let e = ty.amount in omega (arith, ints, e)) in
    (λ b. (less_is x y).1 (parts.0 b), λ l. parts.1 ((less_is x y).0 l))

-- a cost that may enter does so as a graded value
pub times_enter_values : (cost : Cost) → MayEnter TimeCost cost_reach cost → IsValue (graded (bounded_sums (2 ^ 120))) (time_entered cost)
times_enter_values cost may = time_value cost may

-- the same at a number that is the top
pub times_keep_order_at : (top : ℕ) → top ≡ 2 ^ 120 → KeepsOrder (graded (bounded_sums top)) time_entered TimeCost cost_reach
times_keep_order_at top stops = subst (λ t. KeepsOrder (graded (bounded_sums t)) time_entered TimeCost cost_reach) (sym stops) times_keep_order

pub times_enter_values_at : (top : ℕ) (cost : Cost) → top ≡ 2 ^ 120 → MayEnter TimeCost cost_reach cost → IsValue (graded (bounded_sums top)) (time_entered cost)
times_enter_values_at top cost stops may =
    subst (λ t. IsValue (graded (bounded_sums t)) (time_entered cost)) (sym stops) (times_enter_values cost may)
