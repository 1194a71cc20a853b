use Rattle.asg_admit.proofs.Common.{arith, across_value, settled_inside, settled_outside}
use Rattle.asg_admit.proofs.replayed_cells.settled_value.Goals as goal

pub diff-requires-clause-from : goal.diff-requires-clause-from
diff-requires-clause-from g c =
    let m = c.args.m.now in
    let r = c.requires in
    across_value (g.M.Ordered.monoid_of m) (g.met.M.Ordered.laws m) (g.M.DMonoid.difference m) (g.met.M.DMonoid.difference_laws m) c.differences.ensures.twice
    c.args.steps.now r.values c.args.enter c.args.leave c.args.product r.product r.enter r.leave

pub op-requires-clause-left : goal.op-requires-clause-left
op-requires-clause-left g c =
    let m = c.args.m.now in
    let r = c.requires in
    across_value (g.M.Ordered.monoid_of m) (g.met.M.Ordered.laws m) (g.M.DMonoid.difference m) (g.met.M.DMonoid.difference_laws m) c.differences.ensures.twice
    c.args.steps.now r.values c.args.enter c.args.leave c.args.product r.product r.enter r.leave

pub returns-then-enter-leave-clause-settled : goal.returns-then-enter-leave-clause-settled
returns-then-enter-leave-clause-settled g c =
    let m = c.args.m.now in
    let r = c.requires in
    settled_inside (g.M.Ordered.monoid_of m) (g.met.M.Ordered.laws m) (g.M.DMonoid.difference m) (g.met.M.DMonoid.difference_laws m) c.differences.ensures.twice
    c.args.steps.now r.values c.args.enter c.args.leave c.args.product r.product r.enter r.leave c.args.x r.value (omega (arith, c.if-enter-leave.true)) c.diff.result c.diff.ensures.difference

pub returns-else-enter-leave-clause-settled : goal.returns-else-enter-leave-clause-settled
returns-else-enter-leave-clause-settled g c =
    let m = c.args.m.now in
    let r = c.requires in
    settled_outside (g.M.Ordered.monoid_of m) (g.met.M.Ordered.laws m) (g.M.DMonoid.difference m) (g.met.M.DMonoid.difference_laws m) c.differences.ensures.twice
    c.args.steps.now r.values c.args.enter c.args.leave c.args.product r.product r.enter r.leave c.args.x r.value c.if-enter-leave.false c.op.result c.op.ensures.product
