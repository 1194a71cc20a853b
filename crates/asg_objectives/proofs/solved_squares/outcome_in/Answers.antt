use Rattle.asg_objectives.proofs.solved_squares.outcome_in.Goals as goal

pub outcome_of-requires : goal.outcome_of-requires
outcome_of-requires g c = (c.args.square, c.requires.labels, c.in-Ok.ensures)

pub returns-in-Ok-clause-outcome : goal.returns-in-Ok-clause-outcome
returns-in-Ok-clause-outcome g c = c.outcome_of.ensures.outcome c.args.square c.in-Ok.ensures

pub returns-in-Ok-clause-phases : goal.returns-in-Ok-clause-phases
returns-in-Ok-clause-phases g c = c.outcome_of.ensures.phases c.args.square c.in-Ok.ensures
