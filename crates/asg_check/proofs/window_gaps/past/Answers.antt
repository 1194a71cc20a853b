use Rattle.asg_check.proofs.Common.{get_or, pos, ◌≤ℤ◌, ◌<ℤ◌, subst, arith, get_or_default, ints}
use Rattle.asg_check.proofs.WindowGaps.{none_above_more}
use Rattle.asg_check.proofs.window_gaps.past.Goals as goal

pub loop-at-preserved : goal.loop-at-preserved
loop-at-preserved c =
    let here : get_or c.args.costs.now c.loop-at.at (pos 0) ≤ℤ c.args.span.now.last = omega (arith, ints) in
    record {
      from = omega arith;
      before = none_above_more c.args.costs.now c.args.place c.loop-at.at c.args.span.now.last c.loop-at-test.true here c.loop-at.invariant.before;
    }

pub returns-then-from-span-clause-there : goal.returns-then-from-span-clause-there
returns-then-from-span-clause-there c =
    let above : c.args.span.now.last <ℤ get_or c.args.costs.now c.loop-at.at (pos 0) = omega (arith, ints) in
    λ d within. subst (λ v. c.args.span.now.last <ℤ v) (get_or_default c.args.costs.now c.loop-at.at (pos 0) d within) above

pub returns-clause-before : goal.returns-clause-before
returns-clause-before c = λ k d low less. c.loop-at.invariant.before k d low (omega (arith, less, c.loop-at-test.false))

pub returns-then-from-span-clause-before : goal.returns-then-from-span-clause-before
returns-then-from-span-clause-before c = c.loop-at.invariant.before
