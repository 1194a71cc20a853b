use Rattle.asg_objectives.proofs.Common.{sym, subst, IfOk-weaker, Objective, Outcome, PassesNegative, bounded_sums, bounded_difference, plain_word, narrow_top, sum_entered, IsFoldOutcome, IsOutcome}
use Rattle.asg_objectives.proofs.NarrowOutcomes.{IsOutcome-narrow}
use Rattle.asg_objectives.proofs.algebraic_objectives.by_engine.Goals as goal

pub algebraic-requires-clause-passes : goal.algebraic-requires-clause-passes
algebraic-requires-clause-passes c = subst (λ o. PassesNegative o c.args.inst.now) (sym c.of.ensures) c.requires.passes

pub returns-clause-outcome : goal.returns-clause-outcome
returns-clause-outcome c =
    let X = c.args.inst.now in
    let laws = c.narrow_sums.ensures in
    IfOk-weaker c.algebraic.result
    (IsFoldOutcome (bounded_sums narrow_top) bounded_difference plain_word (sum_entered c.of.result.objective) X)
    (IsOutcome c.args.objective X)
    (λ outcome by. IsOutcome-narrow c.args.objective c.requires.objective laws.sum laws.sum_max X c.rows-rows.ensures.instance c.requires.passes outcome
    (subst (λ o. IsFoldOutcome (bounded_sums narrow_top) bounded_difference plain_word (sum_entered o) X outcome) c.of.ensures by))
    c.algebraic.ensures.outcome
