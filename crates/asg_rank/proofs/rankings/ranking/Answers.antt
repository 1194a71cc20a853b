use Rattle.asg_rank.proofs.Common.{sym, subst, IfOk-weaker, PassesNegative, TimeCost, bounded_sums, bounded_difference, narrow_top, plain_word, peak_entered, sum_entered, time_entered, graded, graded_difference, graded_word, maxima, maxima_difference, IsOutcomeIn, IsRankOutcome}
use Rattle.asg_rank.proofs.RankedKinds.{narrow_outcome, sum_outcome, peak_outcome, time_outcome}
use Rattle.asg_rank.proofs.rankings.ranking.Goals as goal

pub returns-in-Sum-clause-outcome : goal.returns-in-Sum-clause-outcome
returns-in-Sum-clause-outcome c =
    let X = c.args.inst.now in
    let kind = c.of.result in
    let passes = subst (λ o. PassesNegative o X) (sym c.of.ensures) c.requires.passes in
    IfOk-weaker c.ranking_by.result (IsOutcomeIn (bounded_sums narrow_top) bounded_difference plain_word (sum_entered kind.objective) kind.objective X c.args.count) (IsRankOutcome c.args.objective X c.args.count)
    (λ outcome ranked.
    subst (λ o. IsRankOutcome o X c.args.count outcome) c.of.ensures
    (narrow_outcome kind.objective kind.is_narrow X c.rows-rows.ensures.instance passes c.args.count outcome ranked))
    c.ranking_by.ensures.outcome

pub returns-in-SumPair-clause-outcome : goal.returns-in-SumPair-clause-outcome
returns-in-SumPair-clause-outcome c =
    let X = c.args.inst.now in
    let kind = c.of-in-SumPair.result in
    let top = kind.monoid.top in
    IfOk-weaker c.ranking_by-in-SumPair.result (IsOutcomeIn (bounded_sums top) bounded_difference plain_word (sum_entered kind.objective) kind.objective X c.args.count) (IsRankOutcome c.args.objective X c.args.count)
    (λ outcome ranked.
    subst (λ o. IsRankOutcome o X c.args.count outcome) c.of-in-SumPair.ensures.objective
    (sum_outcome kind.objective kind.is_sum top kind.stops X c.args.count outcome ranked))
    c.ranking_by-in-SumPair.ensures.outcome

pub returns-in-Bottleneck-clause-outcome : goal.returns-in-Bottleneck-clause-outcome
returns-in-Bottleneck-clause-outcome c =
    let X = c.args.inst.now in
    let kind = c.of-in-Bottleneck.result in
    IfOk-weaker c.ranking_by-in-Bottleneck.result (IsOutcomeIn maxima maxima_difference plain_word (peak_entered kind.objective) kind.objective X c.args.count) (IsRankOutcome c.args.objective X c.args.count)
    (λ outcome ranked.
    subst (λ o. IsRankOutcome o X c.args.count outcome) c.of-in-Bottleneck.ensures
    (peak_outcome kind.objective kind.is_peak X c.args.count outcome ranked))
    c.ranking_by-in-Bottleneck.ensures.outcome

pub returns-in-TimeCost-clause-outcome : goal.returns-in-TimeCost-clause-outcome
returns-in-TimeCost-clause-outcome c =
    let X = c.args.inst.now in
    let kind = c.new.result in
    let top = kind.monoid.inner.top in
    IfOk-weaker c.ranking_by-in-TimeCost.result (IsOutcomeIn (graded (bounded_sums top)) (graded_difference (bounded_sums top) bounded_difference) graded_word time_entered TimeCost X c.args.count) (IsRankOutcome c.args.objective X c.args.count)
    (λ outcome ranked.
    subst (λ o. IsRankOutcome o X c.args.count outcome) (sym c.in-TimeCost.is)
    (time_outcome top kind.stops X c.args.count outcome ranked))
    c.ranking_by-in-TimeCost.ensures.outcome
