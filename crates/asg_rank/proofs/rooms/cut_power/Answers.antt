use Rattle.asg_rank.proofs.Common.{◌≡◌, ℕ, zero, suc, ◌+◌, ◌*◌, ◌^◌, ◌<◌, ◌≤◌, min, sym, ap, ◌∙◌, ⊎_elim, pow-suc, le-mul_of_pos_right, arith, cases_lt}
use Rattle.asg_rank.proofs.rooms.cut_power.Goals as goal

-- a product of a number that is cut is the product, cut
cut_product : (a base most : ℕ) → min (min a most * base) most ≡ min (a * base) most
cut_product a zero most = let none : min a most * 0 ≡ a * 0 = omega arith in ap (λ n. min n most) none
cut_product a (suc b) most =
    ⊎_elim
    (λ (cut : most < a).
    let here : most ≤ most * suc b = le-mul_of_pos_right most (omega arith) in
    let there : a ≤ a * suc b = le-mul_of_pos_right a (omega arith) in
    let is : min a most ≡ most = omega (arith, cut) in
    ap (λ n. min (n * suc b) most) is ∙ omega (arith, here, there, cut))
    (λ (whole : a ≤ most).
    let is : min a most ≡ a = omega (arith, whole) in
    ap (λ n. min (n * suc b) most) is)
    (cases_lt most a)

pub factors-preserved : goal.factors-preserved
factors-preserved c =
    let now = c.factors.invariant.power in
    let step : c.min-product-in-factors.result ≡ min (c.factors.product * c.args.base) c.args.most = c.min-product-in-factors.ensures in
    let next : c.args.base ^ (c.factors.counter + 1) ≡ c.args.base ^ c.factors.counter * c.args.base = ap (λ n. c.args.base ^ n) (omega arith) ∙ pow-suc c.args.base c.factors.counter in
    record {
      few = omega (arith, step);
      power =
          step ∙ ap (λ n. min (n * c.args.base) c.args.most) now
          ∙ cut_product (c.args.base ^ c.factors.counter) c.args.base c.args.most
          ∙ ap (λ n. min n c.args.most) (sym next);
    }
