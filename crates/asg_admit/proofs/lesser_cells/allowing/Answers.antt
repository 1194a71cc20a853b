use Rattle.asg_admit.proofs.Common.{refl}
use Rattle.asg_admit.proofs.AllowingLemmas.{allows_all}
use Rattle.asg_admit.proofs.lesser_cells.allowing.Goals as goal

pub returns-in-Some-clause-allows : goal.returns-in-Some-clause-allows
returns-in-Some-clause-allows g c =
    let m = c.args.m.now in
    allows_all (g.M.Ordered.monoid_of m) (g.met.M.Ordered.laws m) (g.M.DMonoid.difference m) (g.met.M.DMonoid.difference_laws m) c.differences.ensures.twice
    c.args.steps.now c.requires.steps c.args.enter c.cut-from.result c.cut-from.ensures c.product_of-product.result c.product_of-product.ensures.is_value
    (c.in-Some.ensures.allowed refl)
