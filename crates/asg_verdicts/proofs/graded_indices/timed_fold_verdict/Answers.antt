use Rattle.asg_verdicts.proofs.Common.{arith, cost_reach, lies_within}
use Rattle.asg_verdicts.proofs.graded_indices.timed_fold_verdict.Goals as goal

pub chosen_fold-fold-requires-clause-near : goal.chosen_fold-fold-requires-clause-near
chosen_fold-fold-requires-clause-near c = lies_within cost_reach c.args.inst.now (omega arith) c.requires.instance
