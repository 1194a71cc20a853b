use Rattle.asg_check.proofs.Common.{arith, IfOk-weaker}
use Rattle.asg_check.proofs.KnownTold.{peaks_proved, sums_proved, times_proved}
use Rattle.asg_monoids.specs.Entered.{cost_reach}
use Rattle.asg_proof.specs.laws.LiveCosts.{lies_within}
use Rattle.asg_check.proofs.known_phases.prove.Goals as goal

pub has_index-requires-clause-near : goal.has_index-requires-clause-near
has_index-requires-clause-near c = lies_within cost_reach c.args.inst.now (omega arith) c.rows.ensures.instance

pub returns-in-Sum : goal.returns-in-Sum
returns-in-Sum c =
    let own = c.of.result in
    IfOk-weaker c.has_index.result _ _
    (λ is proves yes.
    sums_proved c.args.inst.now c.args.choice.now c.args.phases.now c.args.objective own.objective own.monoid.top own.is_sum c.of.ensures.objective c.of.ensures.stops (proves yes) c.requires.admitted)
    c.has_index.ensures

pub has_index-requires-in-Bottleneck-clause-near : goal.has_index-requires-in-Bottleneck-clause-near
has_index-requires-in-Bottleneck-clause-near c = lies_within cost_reach c.args.inst.now (omega arith) c.rows.ensures.instance

pub returns-in-Bottleneck : goal.returns-in-Bottleneck
returns-in-Bottleneck c =
    let own = c.of-in-Bottleneck.result in
    IfOk-weaker c.has_index-in-Bottleneck.result _ _
    (λ is proves yes.
    peaks_proved c.args.inst.now c.args.choice.now c.args.phases.now c.args.objective own.objective own.is_peak c.of-in-Bottleneck.ensures (proves yes) c.requires.admitted)
    c.has_index-in-Bottleneck.ensures

pub has_index-requires-in-TimeCost-clause-near : goal.has_index-requires-in-TimeCost-clause-near
has_index-requires-in-TimeCost-clause-near c = lies_within cost_reach c.args.inst.now (omega arith) c.rows.ensures.instance

pub returns-in-TimeCost : goal.returns-in-TimeCost
returns-in-TimeCost c =
    IfOk-weaker c.has_index-in-TimeCost.result _ _
    (λ is proves yes.
    times_proved c.args.inst.now c.args.choice.now c.args.phases.now c.args.objective c.new.result.monoid.inner.top c.in-TimeCost.is c.new.ensures (proves yes) c.requires.admitted)
    c.has_index-in-TimeCost.ensures
