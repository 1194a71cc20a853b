use Rattle.asg_phase_totals.proofs.Common.{◌+◌, length, arith, read_is, sum_more, sum_rises}
use Rattle.asg_phase_totals.proofs.dual_sums.sum_within.Goals as goal

pub returns-then-is_below-clause-beyond : goal.returns-then-is_below-clause-beyond
returns-then-is_below-clause-beyond g c =
    let N = g.N.SumNumber in
    let law = g.met.N.SumNumber.numbers_law in
    let l = c.loop-t in
    let steps = c.args.steps.now in
    let below = c.loop-t-test.true in
    let step = read_is law steps l.t c.index-steps-t.result below c.index-steps-t.is in
    let more = sum_more law steps l.t below in
    let rises = sum_rises law steps (l.t + 1) (length steps) (omega (arith, below)) (omega arith) in
    λ _. omega (arith, step, more, rises, l.invariant.is, l.invariant.few, c.minus.ensures, c.is_below.ensures.below c.if-is_below.true)

pub loop-t-preserved : goal.loop-t-preserved
loop-t-preserved g c =
    let N = g.N.SumNumber in
    let law = g.met.N.SumNumber.numbers_law in
    let l = c.loop-t in
    let steps = c.args.steps.now in
    let below = c.loop-t-test.true in
    let step = read_is law steps l.t c.index-steps-t-in-loop-t.result below c.index-steps-t-in-loop-t.is in
    let more = sum_more law steps l.t below in
    let tested = read_is law steps l.t c.index-steps-t.result below c.index-steps-t.is in
    record {
      is = omega (arith, step, more, l.invariant.is, c.plus-sum.ensures);
      few = omega (arith, step, tested, l.invariant.few, c.plus-sum.ensures, c.minus.ensures, c.is_below.ensures.not_below c.if-is_below.false);
    }
