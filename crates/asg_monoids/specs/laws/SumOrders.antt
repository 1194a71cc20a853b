-- Entering sums keeps the order of values, for each objective whose costs do.
use Rattle.std.proofs.Common.{◌≡◌, ◌⊎◌, ℕ, ◌+◌, ◌*◌, ◌<◌, ◌≤◌, ◌^◌, List, length, map, arith, refl, sym, subst, inl, inr, ℤ, pos, ◌+ℤ◌}
use Rattle.std.specs.Prelude.{All, sum_by, unsigned_abs, int_lt, true, false, ◌↔◌, ◌<ℤ◌}
use Rattle.std.specs.Int.{int_min}
use Rattle.std.proofs.lemmas.Int.{ints, clamps}
use Rattle.std.proofs.lemmas.Bool.Decides.{nat_tests}
use Rattle.std.proofs.lemmas.List.Elements.{All-weaker}
use Rattle.std.proofs.lemmas.List.Sums.{sum-map}
use Rattle.asg_model.specs.declared.parts.Cost.{Cost}
use Rattle.asg_model.specs.declared.objectives.Objective.{Objective}
use Rattle.asg_model.specs.declared.objectives.Objective.TheVariants.{Sum, SumMax, SumPair, Capped}
use Rattle.asg_model.specs.Values.{first_parts, second_parts, total}
use Rattle.asg_order.specs.Monoid.{IsLess, IsValue}
use Rattle.asg_order.specs.Entering.{MayEnter}
use Rattle.asg_order.specs.Bridge.{KeepsOrder, costs_fold}
use Rattle.asg_monoids.specs.BoundedSums.{bounded_sums}
use Rattle.asg_monoids.specs.Entered.{cost_reach, shifted, sum_entered, top_of, is_sum_objective}
use Rattle.asg_monoids.specs.laws.SumFolds.{bounded_fold, sum_shifted, sum_turned, sum_paired, sum_capped, total_plain}

pub near_a : (objective : Objective) (u : List Cost) → All (MayEnter objective cost_reach) u → All (λ cost. unsigned_abs cost.a ≤ cost_reach) u
near_a objective u may = All-weaker (MayEnter objective cost_reach) (λ cost. unsigned_abs cost.a ≤ cost_reach) (λ cost m. m.within.a_within) u may

pub near_b : (objective : Objective) (u : List Cost) → All (MayEnter objective cost_reach) u → All (λ cost. unsigned_abs cost.b ≤ cost_reach) u
near_b objective u may = All-weaker (MayEnter objective cost_reach) (λ cost. unsigned_abs cost.b ≤ cost_reach) (λ cost m. m.within.b_within) u may

-- below the top a bounded sum is the sum
pub fold_is : (top : ℕ) (enter : Cost → ℕ) (u : List Cost) → sum_by enter u < top → costs_fold (bounded_sums top) enter u ≡ sum_by enter u
fold_is top enter u lt = omega (arith, bounded_fold top (map enter u), sum-map enter u)

-- of numbers, one is strictly less exactly where it is less
less_is : (top x y p q : ℕ) → x ≡ p → y ≡ q → IsLess (bounded_sums top) x y ↔ (p < q)
less_is top x y p q ex ey = (λ h. grind (arith, nat_tests), λ h. grind (arith, nat_tests))

-- where both sums stay below the top, better values are less sums exactly where they are less
-- products
by_sums : {Better : Type 0} (enter : Cost → ℕ) (u v : List Cost) → sum_by enter u < 2 ^ 120 → sum_by enter v < 2 ^ 120 → Better ↔ (sum_by enter u < sum_by enter v) → Better ↔ IsLess (bounded_sums (2 ^ 120)) (costs_fold (bounded_sums (2 ^ 120)) enter u) (costs_fold (bounded_sums (2 ^ 120)) enter v)
by_sums enter u v lu lv better =
    let M = bounded_sums (2 ^ 120) in
    let less = less_is (2 ^ 120) (costs_fold M enter u) (costs_fold M enter v) (sum_by enter u) (sum_by enter v) (fold_is (2 ^ 120) enter u lu) (fold_is (2 ^ 120) enter v lv) in
    (λ b. less.1 (better.0 b), λ l. better.1 (less.0 l))

sum_order : KeepsOrder (bounded_sums (2 ^ 120)) (sum_entered Sum) Sum cost_reach
sum_order u v same few may_u may_v =
    let su = sum_shifted (λ cost. cost.a) u (near_a Sum u may_u) in
    let sv = sum_shifted (λ cost. cost.a) v (near_a Sum v may_v) in
    by_sums (sum_entered Sum) u v (omega (arith, su.1, few)) (omega (arith, sv.1, few, same))
    (λ h. omega (arith, ints, su.0, sv.0, same, h), λ h. omega (arith, ints, su.0, sv.0, same, h))

sum_max_order : KeepsOrder (bounded_sums (2 ^ 120)) (sum_entered SumMax) SumMax cost_reach
sum_max_order u v same few may_u may_v =
    let su = sum_turned (λ cost. cost.a) u (near_a SumMax u may_u) in
    let sv = sum_turned (λ cost. cost.a) v (near_a SumMax v may_v) in
    by_sums (sum_entered SumMax) u v (omega (arith, su.1, few)) (omega (arith, sv.1, few, same))
    (λ h. omega (arith, ints, su.0, sv.0, same, h), λ h. omega (arith, ints, su.0, sv.0, same, h))

-- of pairs in one number, the first part decides, and then the second
pair_first : (a b c d : ℕ) → b < 2 ^ 42 → d < 2 ^ 42 → ((a < c) ⊎ ((a ≡ c) × (b < d))) ↔ (a * 2 ^ 42 + b < c * 2 ^ 42 + d)
pair_first a b c d lb ld = (λ h. grind arith, λ h. grind arith)

-- shifted parts compare as the parts do
pub shifted_pairs : (k l a b c d : ℕ) (p q r s : ℤ) → pos a ≡ p +ℤ pos k → pos b ≡ q +ℤ pos l → pos c ≡ r +ℤ pos k → pos d ≡ s +ℤ pos l → ((p <ℤ r) ⊎ ((p ≡ r) × (q <ℤ s))) ↔ ((a < c) ⊎ ((a ≡ c) × (b < d)))
shifted_pairs k l a b c d p q r s ea eb ec ed = (
  λ h. elim h [
    | inl lt ↦ inl (omega (arith, ints))
    | inr e ↦ inr (let same = e.0 in let lt = e.1 in (omega (arith, ints), omega (arith, ints)))
  ],
  λ h. elim h [
    | inl lt ↦ inl (omega (arith, ints))
    | inr e ↦ inr (let same = e.0 in let lt = e.1 in (omega (arith, ints), omega (arith, ints)))
  ],
)

pair_order : KeepsOrder (bounded_sums (2 ^ 120)) (sum_entered SumPair) SumPair cost_reach
pair_order u v same few may_u may_v =
    let au = sum_shifted (λ cost. cost.a) u (near_a SumPair u may_u) in
    let av = sum_shifted (λ cost. cost.a) v (near_a SumPair v may_v) in
    let bu = sum_shifted (λ cost. cost.b) u (near_b SumPair u may_u) in
    let bv = sum_shifted (λ cost. cost.b) v (near_b SumPair v may_v) in
    let pu = sum_paired u in
    let pv = sum_paired v in
    let first = pair_first (sum_by (λ cost. shifted cost.a) u) (sum_by (λ cost. shifted cost.b) u) (sum_by (λ cost. shifted cost.a) v) (sum_by (λ cost. shifted cost.b) v) (omega (arith, bu.1, few)) (omega (arith, bv.1, few, same)) in
    let k = cost_reach * length u in
    let parts = shifted_pairs k k (sum_by (λ cost. shifted cost.a) u) (sum_by (λ cost. shifted cost.b) u) (sum_by (λ cost. shifted cost.a) v) (sum_by (λ cost. shifted cost.b) v)
    (total (first_parts u)) (total (second_parts u)) (total (first_parts v)) (total (second_parts v))
    au.0 bu.0 (omega (arith, ints, av.0, same)) (omega (arith, ints, bv.0, same)) in
    by_sums (sum_entered SumPair) u v (omega (arith, pu, au.1, bu.1, few)) (omega (arith, pv, av.1, bv.1, few, same))
    (λ h. omega (arith, pu, pv, first.0 (parts.0 h)), λ h. parts.1 (first.1 (omega (arith, pu, pv, h))))

-- the value of `capped` is the bounded sum
capped_fold : (cap : ℕ) (u : List Cost) → All (MayEnter (Capped cap) cost_reach) u → pos (costs_fold (bounded_sums cap) (sum_entered (Capped cap)) u) ≡ int_min (pos cap) (total (first_parts u))
capped_fold cap u may =
    let plain = All-weaker (MayEnter (Capped cap) cost_reach) (λ cost. int_lt cost.a (pos 0) ≡ false) (λ cost m. m.passes) u may in
    omega (arith, ints, clamps, bounded_fold cap (map (sum_entered (Capped cap)) u), sum-map (sum_entered (Capped cap)) u, sum_capped cap u, total_plain u plain)

capped_order : (cap : ℕ) → KeepsOrder (bounded_sums cap) (sum_entered (Capped cap)) (Capped cap) cost_reach
capped_order cap u v same few may_u may_v =
    let x = costs_fold (bounded_sums cap) (sum_entered (Capped cap)) u in
    let y = costs_fold (bounded_sums cap) (sum_entered (Capped cap)) v in
    let less = less_is cap x y x y refl refl in
    let ex = capped_fold cap u may_u in
    let ey = capped_fold cap v may_v in
    (λ h. less.1 (omega (arith, ints, ex, ey, h)), λ h. let lt = less.0 h in omega (arith, ints, ex, ey, lt))

-- entering sums keeps the order of values
pub sums_keep_order : (objective : Objective) → is_sum_objective objective ≡ true → KeepsOrder (bounded_sums (top_of objective)) (sum_entered objective) objective cost_reach
sums_keep_order Sum is = sum_order
sums_keep_order SumMax is = sum_max_order
sums_keep_order SumPair is = pair_order
sums_keep_order (Capped cap) is = capped_order cap
sums_keep_order _ is = absurd (cc)

-- a cost that may enter does so as a number up to the top
pub sums_enter_values : (objective : Objective) (cost : Cost) → is_sum_objective objective ≡ true → MayEnter objective cost_reach cost → IsValue (bounded_sums (top_of objective)) (sum_entered objective cost)
sums_enter_values Sum cost is may = let a = may.within.a_within in grind (arith, ints, nat_tests)
sums_enter_values SumMax cost is may = let a = may.within.a_within in grind (arith, ints, nat_tests)
sums_enter_values SumPair cost is may = let a = may.within.a_within in let b = may.within.b_within in grind (arith, ints, nat_tests)
sums_enter_values (Capped cap) cost is may = grind (arith, nat_tests)
sums_enter_values _ cost is may = absurd (cc)

-- the same at a number that is the top
pub sums_keep_order_at : (objective : Objective) (top : ℕ) → is_sum_objective objective ≡ true → top ≡ top_of objective → KeepsOrder (bounded_sums top) (sum_entered objective) objective cost_reach
sums_keep_order_at objective top is stops =
    subst (λ t. KeepsOrder (bounded_sums t) (sum_entered objective) objective cost_reach) (sym stops) (sums_keep_order objective is)

pub sums_enter_values_at : (objective : Objective) (top : ℕ) (cost : Cost) → is_sum_objective objective ≡ true → top ≡ top_of objective → MayEnter objective cost_reach cost → IsValue (bounded_sums top) (sum_entered objective cost)
sums_enter_values_at objective top cost is stops may =
    subst (λ t. IsValue (bounded_sums t) (sum_entered objective cost)) (sym stops) (sums_enter_values objective cost is may)
