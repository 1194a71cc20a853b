use Rattle.asg_check.proofs.Common.{arith, IfOk-weaker}
use Rattle.asg_check.proofs.KnownTold.{peaks_stay, sums_stay, times_stay}
use Rattle.asg_monoids.specs.Entered.{cost_reach}
use Rattle.asg_proof.specs.laws.LiveCosts.{lies_within}
use Rattle.asg_check.proofs.kept_phases.stay_for.Goals as goal

pub stay_over-requires-clause-near : goal.stay_over-requires-clause-near
stay_over-requires-clause-near c = lies_within cost_reach c.args.inst.now (omega arith) c.rows.ensures.instance

pub returns-in-Sum : goal.returns-in-Sum
returns-in-Sum c =
    let own = c.of.result in
    IfOk-weaker c.stay_over.result _ _
    (λ is stay yes X cell same.
    sums_stay X c.args.inst.now c.args.phases.now c.args.objective own.objective own.monoid.top own.is_sum c.of.ensures.objective c.of.ensures.stops (stay yes X cell same))
    c.stay_over.ensures

pub stay_over-requires-in-Bottleneck-clause-near : goal.stay_over-requires-in-Bottleneck-clause-near
stay_over-requires-in-Bottleneck-clause-near c = lies_within cost_reach c.args.inst.now (omega arith) c.rows.ensures.instance

pub returns-in-Bottleneck : goal.returns-in-Bottleneck
returns-in-Bottleneck c =
    let own = c.of-in-Bottleneck.result in
    IfOk-weaker c.stay_over-in-Bottleneck.result _ _
    (λ is stay yes X cell same.
    peaks_stay X c.args.inst.now c.args.phases.now c.args.objective own.objective own.is_peak c.of-in-Bottleneck.ensures (stay yes X cell same))
    c.stay_over-in-Bottleneck.ensures

pub stay_over-requires-in-TimeCost-clause-near : goal.stay_over-requires-in-TimeCost-clause-near
stay_over-requires-in-TimeCost-clause-near c = lies_within cost_reach c.args.inst.now (omega arith) c.rows.ensures.instance

pub returns-in-TimeCost : goal.returns-in-TimeCost
returns-in-TimeCost c =
    IfOk-weaker c.stay_over-in-TimeCost.result _ _
    (λ is stay yes X cell same.
    times_stay X c.args.inst.now c.args.phases.now c.args.objective c.new.result.monoid.inner.top c.in-TimeCost.is c.new.ensures (stay yes X cell same))
    c.stay_over-in-TimeCost.ensures
