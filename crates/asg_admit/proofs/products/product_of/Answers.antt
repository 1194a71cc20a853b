use Rattle.asg_admit.proofs.Common.{sym, ◌∙◌, arith, step_of, between-none}
use Rattle.asg_admit.proofs.products.product_of.Goals as goal

pub loop-t-init : goal.loop-t-init
loop-t-init g c =
    let m = c.args.m.now in
    let M = g.M.Ordered.monoid_of m in
    record {
      is_value = c.unit-product.ensures.is_value;
      product = c.unit-product.ensures.unit ∙ sym (between-none M (g.met.M.Ordered.laws m) (g.M.DMonoid.difference m) (g.met.M.DMonoid.difference_laws m) c.differences.ensures.twice (step_of M c.args.steps.now) c.args.from c.args.from (omega arith));
    }
