use Rattle.asg_verdicts.proofs.Common.{arith, IfOk-weaker, cost_reach, lies_within}
use Rattle.asg_verdicts.proofs.PhaseTold.{told_peaks}
use Rattle.asg_verdicts.proofs.phase_verdicts.phases_verdict.Goals as goal

pub replayed_verdict-requires-clause-near : goal.replayed_verdict-requires-clause-near
replayed_verdict-requires-clause-near c = lies_within cost_reach c.args.inst.now (omega arith) c.rows.ensures.instance

pub returns-in-Bottleneck : goal.returns-in-Bottleneck
returns-in-Bottleneck c =
    IfOk-weaker c.replayed_verdict.result _ _
    (λ verdict told.
    told_peaks c.args.inst.now c.args.choice.now c.args.phases.now verdict c.args.objective c.of.result.objective c.of.result.is_peak c.of.ensures told)
    c.replayed_verdict.ensures
