use Rattle.asg_algebra.proofs.Common.{◌≤◌, length, sym, ◌∙◌, arith, common_steps, phase_of}
use Rattle.asg_algebra.proofs.TakenLaws.{LeadTo-one}
use Rattle.asg_algebra.proofs.taken.take_phase.Goals as goal

pub push-requires-clause-enters : goal.push-requires-clause-enters
push-requires-clause-enters g c =
    let admitted = c.apply_phase.ensures.admitted c.if-apply_phase.true in
    admitted.rows ∙ sym c.requires.region_side

pub push-requires-clause-leaves : goal.push-requires-clause-leaves
push-requires-clause-leaves g c =
    let admitted = c.apply_phase.ensures.admitted c.if-apply_phase.true in
    admitted.columns ∙ sym c.requires.region_side

pub returns-then-apply_phase-clause-leads : goal.returns-then-apply_phase-clause-leads
returns-then-apply_phase-clause-leads g c =
    let m = c.args.m.now in
    let before = g.S.RowSquare.as_reduced c.args.square.now in
    let after = g.S.RowSquare.as_reduced c.apply_phase.new.square in
    let some : 1 ≤ length c.args.steps.now = grind (arith, common_steps) in
    let few : length c.args.steps.now ≤ before.now.side = omega (arith, c.if-steps-side.false, c.side-side.ensures.side) in
    LeadTo-one (g.M.Ordered.monoid_of m) (g.met.M.Ordered.laws m) (g.M.DMonoid.difference m)
    (phase_of c.args.steps.now c.args.enters.now c.args.leaves.now) before after c.args.region.now c.push.new.self c.args.trail c.push.result
    some few (c.apply_phase.ensures.admitted c.if-apply_phase.true) (c.apply_phase.ensures.phase c.if-apply_phase.true)
    (record { new = c.push.ensures.new; trails = c.push.ensures.trails; spare = c.push.ensures.spare; side = c.push.ensures.side })
