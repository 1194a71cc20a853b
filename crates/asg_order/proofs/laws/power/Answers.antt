use Rattle.asg_order.proofs.Common.{refl}
use Rattle.asg_order.proofs.PowerLaws.{power_is_value, power_of-add}
use Rattle.asg_order.proofs.laws.power.Goals as goal

pub returns-clause-is_value : goal.returns-clause-is_value
returns-clause-is_value g c = power_is_value (g.M.Ordered.monoid_of c.args.m.now) (g.met.M.Ordered.laws c.args.m.now)

pub returns-clause-none : goal.returns-clause-none
returns-clause-none g c x = refl

pub returns-clause-one : goal.returns-clause-one
returns-clause-one g c = (g.met.M.Ordered.laws c.args.m.now).unit_neutral

pub returns-clause-sum : goal.returns-clause-sum
returns-clause-sum g c = power_of-add (g.M.Ordered.monoid_of c.args.m.now) (g.met.M.Ordered.laws c.args.m.now)
