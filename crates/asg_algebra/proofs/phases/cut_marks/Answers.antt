use Rattle.asg_algebra.proofs.Common.{◌<◌, min, length, get_or, set, ap, ◌∙◌, arith, get_or_default, map_over_more}
use Rattle.asg_algebra.proofs.phases.cut_marks.Goals as goal

pub loop-mark-preserved : goal.loop-mark-preserved
loop-mark-preserved c =
    let l = c.loop-mark in
    let x = get_or l.marks l.mark-index 0 in
    let within : l.mark-index < length l.marks = omega (arith, c.loop-mark-test.true, l.auto.marks) in
    ap (set l.marks l.mark-index) c.min.ensures
    ∙ map_over_more (λ e. min e c.args.steps) c.args.marks.now l.marks l.mark-index x c.loop-mark-test.true l.invariant (get_or_default l.marks l.mark-index 0 x within)
