use Rattle.asg_order.proofs.Common.{fold_of-append}
use Rattle.asg_order.proofs.laws.joined.Goals as goal

pub returns : goal.returns
returns g c = fold_of-append (g.M.Ordered.monoid_of c.args.m.now) (g.met.M.Ordered.laws c.args.m.now)
