use Rattle.asg_admit.proofs.Common.{◌≡◌, length, sym, ◌∙◌, subst, arith, get_or_read, phase_of, IsValue}
use Rattle.asg_admit.proofs.SteppedLemmas.{no_steps, one_step, stepped_values, all_steps}
use Rattle.asg_admit.proofs.replaying.take_steps.Goals as goal

pub loop-t-init : goal.loop-t-init
loop-t-init g c =
    let m = c.args.m.now in
    no_steps (g.M.Ordered.monoid_of m) (g.M.DMonoid.difference m) (phase_of c.args.steps.now c.args.enters.now c.args.leaves.now) c.args.square.now

pub step_rows-requires-clause-enters : goal.step_rows-requires-clause-enters
step_rows-requires-clause-enters g c = c.requires.admitted.rows ∙ sym c.loop-t.invariant.labels.side

pub step_rows-requires-clause-leaves : goal.step_rows-requires-clause-leaves
step_rows-requires-clause-leaves g c = c.requires.admitted.columns ∙ sym c.loop-t.invariant.labels.side

pub step_rows-requires-clause-step : goal.step_rows-requires-clause-step
step_rows-requires-clause-step g c =
    let M = g.M.Ordered.monoid_of c.args.m.now in
    let l = c.loop-t in
    let step = c.index-steps-t in
    subst (IsValue M) (sym (get_or_read c.args.steps.now l.t step.result (omega (arith, c.loop-t-test.true)) step.is M.unit))
    (c.requires.admitted.admitted l.t (omega (arith, c.loop-t-test.true))).value

pub step_rows-requires-clause-cells : goal.step_rows-requires-clause-cells
step_rows-requires-clause-cells g c =
    let m = c.args.m.now in
    let l = c.loop-t in
    stepped_values (g.M.Ordered.monoid_of m) (g.M.DMonoid.difference m) (phase_of c.args.steps.now c.args.enters.now c.args.leaves.now) c.args.square.now
    (g.met.M.Ordered.laws m) (g.met.M.DMonoid.difference_laws m) l.square l.t c.requires.cells
    (λ i h. c.requires.admitted.admitted i (omega (arith, h, c.loop-t-test.true))) l.invariant

pub loop-t-preserved : goal.loop-t-preserved
loop-t-preserved g c =
    let m = c.args.m.now in
    let M = g.M.Ordered.monoid_of m in
    let l = c.loop-t in
    let step = c.index-steps-t in
    one_step M (g.M.DMonoid.difference m) (phase_of c.args.steps.now c.args.enters.now c.args.leaves.now) c.args.square.now
    l.square c.step_rows.new.square l.t step.result
    (get_or_read c.args.steps.now l.t step.result (omega (arith, c.loop-t-test.true)) step.is M.unit)
    l.invariant c.step_rows.ensures.labels c.step_rows.ensures.cells

pub returns : goal.returns
returns g c =
    let m = c.args.m.now in
    let l = c.loop-t in
    let all : l.t ≡ length c.args.steps.now = omega (arith, c.loop-t-test.false, l.auto.t-end) in
    all_steps (g.M.Ordered.monoid_of m) (g.M.DMonoid.difference m) (phase_of c.args.steps.now c.args.enters.now c.args.leaves.now) c.args.square.now
    l.square l.t all l.invariant
