use Rattle.asg_objectives.proofs.Common.{square_side, IsNothingBy}
use Rattle.asg_objectives.proofs.LedSquares.{GivesFewPhases-nothing, IsOutcome-nothing}
use Rattle.asg_objectives.proofs.narrow_squares.outcome_on.Goals as goal

pub returns-in-Some-clause-outcome : goal.returns-in-Some-clause-outcome
returns-in-Some-clause-outcome c =
    let X = c.args.inst.now in
    let nothing : IsNothingBy X c.args.square.now c.in-Some.found = rw c.in-Some.is at c.in_ok-found.ensures in
    IsOutcome-nothing c.args.objective X c.args.square.now c.requires.present c.in-Some.found nothing

pub returns-in-Some-clause-phases : goal.returns-in-Some-clause-phases
returns-in-Some-clause-phases c =
    let X = c.args.inst.now in
    let nothing : IsNothingBy X c.args.square.now c.in-Some.found = rw c.in-Some.is at c.in_ok-found.ensures in
    GivesFewPhases-nothing X c.args.square.now (square_side X) c.in-Some.found nothing
