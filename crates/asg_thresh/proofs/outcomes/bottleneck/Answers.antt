use Rattle.asg_thresh.proofs.outcomes.bottleneck.Goals as goal

pub graded_outcome-requires-clause-square : goal.graded_outcome-requires-clause-square
graded_outcome-requires-clause-square c = c.in_ok-square.ensures

pub returns-clause-outcome : goal.returns-clause-outcome
returns-clause-outcome c = c.graded_outcome.ensures.outcome

pub returns-clause-threshold : goal.returns-clause-threshold
returns-clause-threshold c = c.graded_outcome.ensures.threshold
