use Rattle.asg_branching.proofs.Common.{Some, sym, ◌∙◌}
use Rattle.asg_branching.proofs.GrowOutcomes.{behind_limit}
use Rattle.asg_branching.proofs.children.is_behind.Goals as goal

pub le-requires-clause-left : goal.le-requires-clause-left
le-requires-clause-left g c =
    c.in-Some.ensures.2

pub returns-in-Some : goal.returns-in-Some
returns-in-Some g c =
    record { behind = λ is. behind_limit (g.M.Ordered.monoid_of c.args.m.now) (g.met.M.Ordered.laws c.args.m.now) c.args.slots.now c.requires.values c.args.index c.requires.index (Some c.in-Some.top) c.in-Some.ensures (sym c.le.ensures ∙ is) }
