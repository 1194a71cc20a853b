use Rattle.asg_admit.proofs.Common.{ap, ◌∙◌, phase_of}
use Rattle.asg_admit.specs.laws.SettleLemmas.{phase_by}
use Rattle.asg_admit.proofs.replaying.apply.Goals as goal

pub returns : goal.returns
returns g c =
    let m = c.args.m.now in
    let M = g.M.Ordered.monoid_of m in
    let r = c.requires in
    phase_by M (g.met.M.Ordered.laws m) (g.M.DMonoid.difference m) (g.met.M.DMonoid.difference_laws m) (phase_of c.args.steps.now c.args.enters.now c.args.leaves.now)
    c.args.reduced.now _ r.reduced r.admitted c.side.ensures.grid c.side-2.ensures.grid c.take_steps.ensures
    (c.op-reduced.ensures.product ∙ ap (M.product c.args.reduced.now.index) c.fold.ensures.product) c.op-reduced.ensures.is_value
