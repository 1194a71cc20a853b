use Rattle.asg_order.specs.laws.Orders.{fold_le}
use Rattle.asg_order.proofs.laws.raised.Goals as goal

pub returns : goal.returns
returns g c = fold_le (g.M.Ordered.monoid_of c.args.m.now) (g.met.M.Ordered.laws c.args.m.now)
