use Rattle.asg_objectives.proofs.Common.{sym, subst, IfOk-weaker, PassesNegative, plain_word, peak_entered, maxima, maxima_difference, IsFoldOutcome, IsOutcome}
use Rattle.asg_objectives.proofs.KindOutcomes.{IsOutcome-maxima}
use Rattle.asg_objectives.proofs.algebraic_objectives.by_maxima.Goals as goal

pub entered_square-requires-clause-passes : goal.entered_square-requires-clause-passes
entered_square-requires-clause-passes c = subst (λ o. PassesNegative o c.args.inst.now) (sym c.of-kind.ensures) c.requires.passes

pub guessed_algebraic-requires-clause-passes : goal.guessed_algebraic-requires-clause-passes
guessed_algebraic-requires-clause-passes c = subst (λ o. PassesNegative o c.args.inst.now) (sym c.of-kind.ensures) c.requires.passes

pub returns-in-Ok-clause-outcome : goal.returns-in-Ok-clause-outcome
returns-in-Ok-clause-outcome c =
    let X = c.args.inst.now in
    let kind = c.of-kind.result in
    IfOk-weaker c.guessed_algebraic.result
    (IsFoldOutcome maxima maxima_difference plain_word (peak_entered kind.objective) X)
    (IsOutcome c.args.objective X)
    (λ outcome by. IsOutcome-maxima kind.objective c.args.objective c.of-kind.ensures c.requires.objective X outcome by)
    c.guessed_algebraic.ensures.outcome
