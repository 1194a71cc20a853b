use Rattle.asg_order.specs.laws.Differences.{product_of_difference, difference_monotone, difference_of_difference}
use Rattle.asg_order.proofs.laws.differences.Goals as goal

pub returns-clause-whole : goal.returns-clause-whole
returns-clause-whole g c =
    let m = c.args.m.now in
    product_of_difference (g.M.Ordered.monoid_of m) (g.met.M.Ordered.laws m) (g.M.DMonoid.difference m) (g.met.M.DMonoid.difference_laws m)

pub returns-clause-monotone : goal.returns-clause-monotone
returns-clause-monotone g c =
    let m = c.args.m.now in
    difference_monotone (g.M.Ordered.monoid_of m) (g.met.M.Ordered.laws m) (g.M.DMonoid.difference m) (g.met.M.DMonoid.difference_laws m)

pub returns-clause-twice : goal.returns-clause-twice
returns-clause-twice g c =
    let m = c.args.m.now in
    difference_of_difference (g.M.Ordered.monoid_of m) (g.met.M.Ordered.laws m) (g.M.DMonoid.difference m) (g.met.M.DMonoid.difference_laws m)
