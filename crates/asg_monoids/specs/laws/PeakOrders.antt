-- Entering maxima keeps the order of values, for both objectives whose costs do.
use Rattle.std.proofs.Common.{◌≡◌, ℕ, ◌<◌, ◌≤◌, max, List, [], ◌∷◌, map, arith, ℤ, pos, ◌+ℤ◌, ◌-ℤ◌}
use Rattle.std.specs.Prelude.{All, fold, unsigned_abs, true, ◌↔◌}
use Rattle.std.specs.Int.{int_max, int_min}
use Rattle.std.proofs.lemmas.Int.{ints, clamps}
use Rattle.std.proofs.lemmas.Bool.Decides.{nat_tests}
use Rattle.std.proofs.lemmas.List.Elements.{All-head, All-tail, All-weaker}
use Rattle.asg_model.specs.declared.parts.Cost.{Cost}
use Rattle.asg_model.specs.declared.objectives.Objective.{Objective}
use Rattle.asg_model.specs.declared.objectives.Objective.TheVariants.{Bottleneck, BottleneckMax}
use Rattle.asg_model.specs.Values.{first_parts}
use Rattle.asg_model.specs.Extremes.{greatest, least}
use Rattle.asg_order.specs.Monoid.{IsLess, IsValue}
use Rattle.asg_order.specs.Entering.{MayEnter}
use Rattle.asg_order.specs.Bridge.{KeepsOrder, costs_fold}
use Rattle.asg_monoids.specs.Maxima.{maxima}
use Rattle.asg_monoids.specs.Entered.{cost_reach, shifted, turned, peak_entered}
use Rattle.asg_model.specs.Objectives.{is_bottleneck}

Near : Cost → Type 0
Near cost = unsigned_abs cost.a ≤ cost_reach

near_a : (objective : Objective) (u : List Cost) → All (MayEnter objective cost_reach) u → All Near u
unfolding Near
near_a objective u may = All-weaker (MayEnter objective cost_reach) Near (λ cost m. m.within.a_within) u may

greatest_from : (m : ℕ) (a : ℤ) (u : List Cost) → pos m ≡ a +ℤ pos cost_reach → All Near u → pos (fold max m (map (peak_entered Bottleneck) u)) ≡ fold int_max a (first_parts u) +ℤ pos cost_reach
unfolding Near
greatest_from m a [] e near = e
greatest_from m a (cost ∷ u) e near =
    let here : unsigned_abs cost.a ≤ cost_reach = All-head Near cost u near in
    greatest_from (max m (shifted cost.a)) (int_max a cost.a) u (omega (arith, ints, clamps, e, here)) (All-tail Near cost u near)

-- the greatest shifted part is the greatest part, shifted
greatest_fold : (cost : Cost) (u : List Cost) → All Near (cost ∷ u) → pos (costs_fold maxima (peak_entered Bottleneck) (cost ∷ u)) ≡ greatest (first_parts (cost ∷ u)) +ℤ pos cost_reach
unfolding Near
greatest_fold cost u near =
    let here : unsigned_abs cost.a ≤ cost_reach = All-head Near cost u near in
    greatest_from (max 0 (shifted cost.a)) cost.a u (omega (arith, ints, here)) (All-tail Near cost u near)

least_from : (m : ℕ) (a : ℤ) (u : List Cost) → pos m ≡ pos cost_reach -ℤ a → All Near u → pos (fold max m (map (peak_entered BottleneckMax) u)) ≡ pos cost_reach -ℤ fold int_min a (first_parts u)
unfolding Near
least_from m a [] e near = e
least_from m a (cost ∷ u) e near =
    let here : unsigned_abs cost.a ≤ cost_reach = All-head Near cost u near in
    least_from (max m (turned cost.a)) (int_min a cost.a) u (omega (arith, ints, clamps, e, here)) (All-tail Near cost u near)

-- the greatest part turned round is the least part, turned round
least_fold : (cost : Cost) (u : List Cost) → All Near (cost ∷ u) → pos (costs_fold maxima (peak_entered BottleneckMax) (cost ∷ u)) ≡ pos cost_reach -ℤ least (first_parts (cost ∷ u))
unfolding Near
least_fold cost u near =
    let here : unsigned_abs cost.a ≤ cost_reach = All-head Near cost u near in
    least_from (max 0 (turned cost.a)) cost.a u (omega (arith, ints, here)) (All-tail Near cost u near)

-- of numbers, one is strictly less exactly where it is less
less_is : (x y : ℕ) → IsLess maxima x y ↔ (x < y)
less_is x y = (λ h. grind (arith, nat_tests), λ h. grind (arith, nat_tests))

bottleneck_order : KeepsOrder maxima (peak_entered Bottleneck) Bottleneck cost_reach
bottleneck_order [] [] same few may_u may_v = (λ h. absurd (omega (arith, ints, h)), λ h. absurd (cc))
bottleneck_order [] (d ∷ v) same few may_u may_v = absurd (omega arith)
bottleneck_order (c ∷ u) [] same few may_u may_v = absurd (omega arith)
bottleneck_order (c ∷ u) (d ∷ v) same few may_u may_v =
    let x = costs_fold maxima (peak_entered Bottleneck) (c ∷ u) in
    let y = costs_fold maxima (peak_entered Bottleneck) (d ∷ v) in
    let ex = greatest_fold c u (near_a Bottleneck (c ∷ u) may_u) in
    let ey = greatest_fold d v (near_a Bottleneck (d ∷ v) may_v) in
    (λ h. (less_is x y).1 (omega (arith, ints, ex, ey, h)), λ h. let lt = (less_is x y).0 h in omega (arith, ints, ex, ey, lt))

bottleneck_max_order : KeepsOrder maxima (peak_entered BottleneckMax) BottleneckMax cost_reach
bottleneck_max_order [] [] same few may_u may_v = (λ h. absurd (omega (arith, ints, h)), λ h. absurd (cc))
bottleneck_max_order [] (d ∷ v) same few may_u may_v = absurd (omega arith)
bottleneck_max_order (c ∷ u) [] same few may_u may_v = absurd (omega arith)
bottleneck_max_order (c ∷ u) (d ∷ v) same few may_u may_v =
    let x = costs_fold maxima (peak_entered BottleneckMax) (c ∷ u) in
    let y = costs_fold maxima (peak_entered BottleneckMax) (d ∷ v) in
    let ex = least_fold c u (near_a BottleneckMax (c ∷ u) may_u) in
    let ey = least_fold d v (near_a BottleneckMax (d ∷ v) may_v) in
    (λ h. (less_is x y).1 (omega (arith, ints, ex, ey, h)), λ h. let lt = (less_is x y).0 h in omega (arith, ints, ex, ey, lt))

-- entering maxima keeps the order of values
pub peaks_keep_order : (objective : Objective) → is_bottleneck objective ≡ true → KeepsOrder maxima (peak_entered objective) objective cost_reach
peaks_keep_order Bottleneck is = bottleneck_order
peaks_keep_order BottleneckMax is = bottleneck_max_order
peaks_keep_order _ is = absurd (cc)

-- a cost that may enter does so as a number below 2^64
pub peaks_enter_values : (objective : Objective) (cost : Cost) → is_bottleneck objective ≡ true → MayEnter objective cost_reach cost → IsValue maxima (peak_entered objective cost)
peaks_enter_values Bottleneck cost is may = let a = may.within.a_within in grind (arith, ints, nat_tests)
peaks_enter_values BottleneckMax cost is may = let a = may.within.a_within in grind (arith, ints, nat_tests)
peaks_enter_values _ cost is may = absurd (cc)
