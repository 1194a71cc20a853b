use Rattle.asg_objectives.proofs.Common.{IfOk-weaker, TimeCost, bounded_sums, bounded_difference, time_entered, graded, graded_difference, graded_word, IsFoldOutcome, IsOutcome}
use Rattle.asg_objectives.proofs.KindOutcomes.{IsOutcome-grades}
use Rattle.asg_objectives.proofs.algebraic_objectives.by_graded_square.Goals as goal

pub returns-in-Ok-None-clause-outcome : goal.returns-in-Ok-None-clause-outcome
returns-in-Ok-None-clause-outcome c =
    let X = c.args.inst.now in
    let top = c.new-kind.result.monoid.inner.top in
    IfOk-weaker c.guessed_algebraic.result
    (IsFoldOutcome (graded (bounded_sums top)) (graded_difference (bounded_sums top) bounded_difference) graded_word time_entered X)
    (IsOutcome TimeCost X)
    (λ outcome by. IsOutcome-grades top c.new-kind.ensures X outcome by)
    c.guessed_algebraic.ensures.outcome
