use Rattle.asg_settling.proofs.Common.{slice_index, ◌∙◌, arith}
use Rattle.asg_admit.specs.laws.ProductLemmas.{across_at}
use Rattle.asg_admit.specs.laws.ReplayLemmas.{cut_settled}
use Rattle.asg_settling.proofs.settling.settled_in_row.Goals as goal

pub returns : goal.returns
returns g c =
    let m = c.args.m.now in
    c.settled_value.ensures.settled
    ∙ cut_settled (g.M.Ordered.monoid_of m) (g.met.M.Ordered.laws m) (g.M.DMonoid.difference m) (g.met.M.DMonoid.difference_laws m) c.differences.ensures.twice
    c.args.steps.now c.args.enter (slice_index c.args.leaves.now c.args.column) c.args.enter c.cut-leave.result (omega (arith, c.requires.enter)) c.cut-leave.ensures c.args.x

pub settled_value-requires-clause-product : goal.settled_value-requires-clause-product
settled_value-requires-clause-product g c =
    let m = c.args.m.now in
    let i = c.index-room-leave in
    across_at (g.M.Ordered.monoid_of m) (g.met.M.Ordered.laws m) (g.M.DMonoid.difference m) (g.met.M.DMonoid.difference_laws m) c.differences.ensures.twice
    c.args.steps.now c.requires.values c.args.room.now c.args.enter c.cut-leave.result c.requires.products c.requires.room (omega (arith, c.cut-leave.ensures)) i.result i.is

pub settled_value-requires-clause-values : goal.settled_value-requires-clause-values
settled_value-requires-clause-values g c = c.requires.values

pub settled_value-requires-clause-enter : goal.settled_value-requires-clause-enter
settled_value-requires-clause-enter g c = c.requires.enter

pub settled_value-requires-clause-leave : goal.settled_value-requires-clause-leave
settled_value-requires-clause-leave g c = omega (arith, c.cut-leave.ensures)

pub settled_value-requires-clause-value : goal.settled_value-requires-clause-value
settled_value-requires-clause-value g c = c.requires.value
