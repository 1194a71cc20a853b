use Rattle.asg_settling.proofs.Common.{ap, ◌∙◌, phase_of, phase_by, cell_at}
use Rattle.asg_proof.specs.laws.PhaseSteps.{phase_has_values}
use Rattle.asg_settling.proofs.settling.settle.Goals as goal

pub settle_square-requires-clause-values : goal.settle_square-requires-clause-values
settle_square-requires-clause-values g c =
    let m = c.args.m.now in
    phase_has_values (g.M.Ordered.monoid_of m) (g.M.DMonoid.difference m) c.args.reduced.now.now.side (phase_of c.args.steps.now c.args.enters.now c.args.leaves.now) (cell_at c.args.reduced.now.now) c.requires.admitted

pub returns-clause-phase : goal.returns-clause-phase
returns-clause-phase g c =
    let m = c.args.m.now in
    let M = g.M.Ordered.monoid_of m in
    let r = c.requires in
    phase_by M (g.met.M.Ordered.laws m) (g.M.DMonoid.difference m) (g.met.M.DMonoid.difference_laws m) (phase_of c.args.steps.now c.args.enters.now c.args.leaves.now)
    c.args.reduced.now _ r.reduced r.admitted c.side.ensures.grid c.side-2.ensures.grid c.settle_square.ensures.settled
    (c.op-reduced.ensures.product ∙ ap (M.product c.args.reduced.now.index) c.fold.ensures.product) c.op-reduced.ensures.is_value

pub fold-requires : goal.fold-requires
fold-requires g c =
    let m = c.args.m.now in
    phase_has_values (g.M.Ordered.monoid_of m) (g.M.DMonoid.difference m) c.args.reduced.now.now.side (phase_of c.args.steps.now c.args.enters.now c.args.leaves.now) (cell_at c.args.reduced.now.now) c.requires.admitted

pub op-reduced-requires-clause-left : goal.op-reduced-requires-clause-left
op-reduced-requires-clause-left g c = c.requires.reduced.index

pub op-reduced-requires-clause-right : goal.op-reduced-requires-clause-right
op-reduced-requires-clause-right g c = c.fold.ensures.is_value

pub settle_square-requires-clause-room : goal.settle_square-requires-clause-room
settle_square-requires-clause-room g c = c.requires.room

pub settle_square-requires-clause-enters : goal.settle_square-requires-clause-enters
settle_square-requires-clause-enters g c = c.requires.admitted.rows

pub settle_square-requires-clause-leaves : goal.settle_square-requires-clause-leaves
settle_square-requires-clause-leaves g c = c.requires.admitted.columns

pub settle_square-requires-clause-cells : goal.settle_square-requires-clause-cells
settle_square-requires-clause-cells g c = c.requires.reduced.cells

pub returns-clause-room : goal.returns-clause-room
returns-clause-room g c = c.settle_square.ensures.room
