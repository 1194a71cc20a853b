use Rattle.asg_objectives.proofs.LedSquares.{GivesFewPhases-nothing, IsSquareOutcome-nothing}
use Rattle.asg_objectives.proofs.solved_squares.outcome.Goals as goal

pub returns-in-Ok-Some-clause-outcome : goal.returns-in-Ok-Some-clause-outcome
returns-in-Ok-Some-clause-outcome g c =
    let m = c.args.m.now in
    IsSquareOutcome-nothing (g.M.Ordered.monoid_of m) (g.M.DMonoid.difference m) (g.M.Written.word_of m) c.args.inst.now c.args.square c.square_law.ensures.presence c.in-Ok-Some.found (rw c.in-Ok-Some.field-0-is at c.in-Ok-Some.ensures)

pub returns-in-Ok-Some-clause-phases : goal.returns-in-Ok-Some-clause-phases
returns-in-Ok-Some-clause-phases g c =
    GivesFewPhases-nothing c.args.inst.now c.args.square c.args.square.side c.in-Ok-Some.found (rw c.in-Ok-Some.field-0-is at c.in-Ok-Some.ensures)
