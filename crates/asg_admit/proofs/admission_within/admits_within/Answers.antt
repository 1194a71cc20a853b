use Rattle.asg_admit.proofs.Common.{phase_of, not_both, never, over_from, allows_from, over_admitted, masked_grid}
use Rattle.asg_admit.proofs.admission_within.admits_within.Goals as goal

pub returns-then-not-is_over : goal.returns-then-not-is_over
returns-then-not-is_over g c =
    let m = c.args.m.now in
    never (λ one. not_both c.is_over.result
    (c.is_over.ensures.1 (over_from (g.M.Ordered.monoid_of m) (g.M.DMonoid.difference m) (phase_of c.args.steps.now c.args.enters.now c.args.leaves.now) (masked_grid c.args.square.now c.args.kept.now) one))
    c.if-not-is_over.true)

pub returns : goal.returns
returns g c =
    let m = c.args.m.now in
    let M = g.M.Ordered.monoid_of m in
    let d = g.M.DMonoid.difference m in
    let Q = masked_grid c.args.square.now c.args.kept.now in
    let phase = phase_of c.args.steps.now c.args.enters.now c.args.leaves.now in
    let over = c.is_over.ensures.0 c.if-not-is_over.false in (
      λ ok. over_admitted M d phase Q over (c.kept_rows_allow.ensures.0 ok),
      λ one. c.kept_rows_allow.ensures.1 (allows_from M d phase Q one),
    )
