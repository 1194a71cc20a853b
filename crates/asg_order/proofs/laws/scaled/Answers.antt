use Rattle.asg_order.proofs.PowerLaws.{fold_of-scaled}
use Rattle.asg_order.proofs.laws.scaled.Goals as goal

pub returns : goal.returns
returns g c = fold_of-scaled (g.M.Ordered.monoid_of c.args.m.now) (g.met.M.Ordered.laws c.args.m.now)
