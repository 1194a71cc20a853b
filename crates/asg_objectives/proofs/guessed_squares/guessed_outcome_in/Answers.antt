use Rattle.asg_objectives.proofs.guessed_squares.guessed_outcome_in.Goals as goal

pub found_outcome-requires : goal.found_outcome-requires
found_outcome-requires g c = (c.args.square, (rw c.in-Ok-Some.field-0-is at c.in-Ok-Some.ensures))

pub returns-in-Ok-Some-clause-outcome : goal.returns-in-Ok-Some-clause-outcome
returns-in-Ok-Some-clause-outcome g c = c.found_outcome.ensures.outcome c.args.square (rw c.in-Ok-Some.field-0-is at c.in-Ok-Some.ensures)

pub returns-in-Ok-Some-clause-phases : goal.returns-in-Ok-Some-clause-phases
returns-in-Ok-Some-clause-phases g c = c.found_outcome.ensures.phases c.args.square (rw c.in-Ok-Some.field-0-is at c.in-Ok-Some.ensures)
