use Rattle.asg_phase_totals.proofs.Common.{◌<◌, length, ap, ◌∙◌, arith, take_all, sum_of_steps, numbered, all_is, phase_count_is, phase_is, sum}
use Rattle.asg_phase_totals.proofs.SegmentLemmas.{sum_of_steps-more, sum_with_one}
use Rattle.asg_phase_totals.proofs.list_tests.sum_of_list.Goals as goal

pub plus-sum-requires : goal.plus-sum-requires
plus-sum-requires g c =
    omega (arith, c.in-Some.ensures.small, c.minus.ensures, c.greatest_sum.ensures, c.loop-i.invariant.small, g.met.N.SumNumber.wide_law)

pub loop-i-preserved : goal.loop-i-preserved
loop-i-preserved g c =
    let N = g.N.SumNumber in
    let law = g.met.N.SumNumber.numbers_law in
    let phases_law = g.met.N.SumNumber.phases_law in
    let ps = c.args.phases.now in
    let i = c.loop-i.i in
    let phase = numbered N.numbers c.index-phases-i.result in
    let is = phase_is law phases_law ps i c.index-phases-i.result c.loop-i-test.true c.index-phases-i.is in
    let below : i < length (N.phases ps) = omega (arith, c.loop-i-test.true, phase_count_is law phases_law ps) in
    let more = sum_of_steps-more (N.phases ps) i phase below is in
    let all = all_is law c.steps.result.now in
    let same = ap (λ xs. sum (N.numbers xs)) c.steps.ensures in
    record {
      sum = omega (arith, more, all, same, c.in-Some.ensures.within, c.loop-i.invariant.sum, c.plus-sum.ensures);
      small = omega (arith, c.in-Some.ensures.small, c.minus.ensures, c.greatest_sum.ensures, c.loop-i.invariant.small, c.plus-sum.ensures);
    }

pub returns-in_default-clause-beyond : goal.returns-in_default-clause-beyond
returns-in_default-clause-beyond g c = λ _.
    let N = g.N.SumNumber in
    let law = g.met.N.SumNumber.numbers_law in
    let phases_law = g.met.N.SumNumber.phases_law in
    let ps = c.args.phases.now in
    let i = c.loop-i.i in
    let phase = numbered N.numbers c.index-phases-i.result in
    let is = phase_is law phases_law ps i c.index-phases-i.result c.loop-i-test.true c.index-phases-i.is in
    let below : i < length (N.phases ps) = omega (arith, c.loop-i-test.true, phase_count_is law phases_law ps) in
    let more = sum_with_one (N.phases ps) i phase below is in
    let all = all_is law c.steps.result.now in
    let same = ap (λ xs. sum (N.numbers xs)) c.steps.ensures in
    let beyond = c.sum_within.ensures.beyond c.in_default.is in
    omega (arith, more, all, same, beyond, c.minus.ensures, c.greatest_sum.ensures, c.loop-i.invariant.sum, c.loop-i.invariant.small)

pub returns-clause-within : goal.returns-clause-within
returns-clause-within g c =
    let N = g.N.SumNumber in
    let law = g.met.N.SumNumber.numbers_law in
    let phases_law = g.met.N.SumNumber.phases_law in
    let ps = c.args.phases.now in
    c.loop-i.invariant.sum
    ∙ ap sum_of_steps (take_all c.loop-i.i (N.phases ps) (omega (arith, c.loop-i-test.false, phase_count_is law phases_law ps)))
