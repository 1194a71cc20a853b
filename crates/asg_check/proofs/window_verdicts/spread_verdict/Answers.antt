use Rattle.asg_check.proofs.Common.{pos, ◌<ℤ◌, Some, None, refl, ap, ◌∙◌, subst, arith, to_z-of_z, ints, w128, IsLeastGap, No, Yes, w64}
use Rattle.asg_check.proofs.WindowTold.{gap_tells, live_fits}
use Rattle.asg_check.proofs.window_verdicts.spread_verdict.Goals as goal

pub returns-in-Some : goal.returns-in-Some
returns-in-Some c =
    let X = c.args.inst.now in
    let above : pos 0 <ℤ c.args.spread = omega (arith, ints) in
    let least = subst (IsLeastGap X c.args.spread c.args.windows.now) c.in-Some.is (subst (λ d. IsLeastGap X d c.args.windows.now c.in_ok-cost.field-0) (to_z-of_z w128 c.args.spread c.ranges.spread) c.in_ok-cost.ensures) in
    let cost = to_z-of_z w64 c.in-Some.cost (live_fits X c.requires.instance c.in-Some.cost least.0) in
    gap_tells X c.args.spread c.args.windows.now (Some c.in-Some.cost) c.verdict_at.result above least (c.verdict_at.ensures ∙ ap (No 8) cost)

pub returns-in-None : goal.returns-in-None
returns-in-None c =
    let X = c.args.inst.now in
    let above : pos 0 <ℤ c.args.spread = omega (arith, ints) in
    gap_tells X c.args.spread c.args.windows.now None Yes above (subst (IsLeastGap X c.args.spread c.args.windows.now) c.in-None.is (subst (λ d. IsLeastGap X d c.args.windows.now c.in_ok-cost.field-0) (to_z-of_z w128 c.args.spread c.ranges.spread) c.in_ok-cost.ensures)) refl
