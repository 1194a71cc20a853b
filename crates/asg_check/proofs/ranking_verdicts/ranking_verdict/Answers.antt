use Rattle.asg_check.proofs.Common.{◌∷◌, length, refl, IfOk-weaker, IsNoChoiceAt, IsWrongValueAt, StandsAgainst, Ranked, Tells, claim_reasons, order_reasons, NotValid, WrongValue, goes_on, stops_at}
use Rattle.asg_check.proofs.RankingStages.{first_wrong, none_unspelled, none_wrong, unspelled_before}
use Rattle.asg_check.proofs.ranking_verdicts.ranking_verdict.Goals as goal

pub first_unspelled-requires : goal.first_unspelled-requires
first_unspelled-requires c =
    unspelled_before c.args.objective c.args.inst.now c.args.answers.now (length c.args.answers.now) c.in-Some.place (rw c.in-Some.is at c.in_ok-place.ensures.first)

pub returns-in-Some-2 : goal.returns-in-Some-2
returns-in-Some-2 c =
    let X = c.args.inst.now in
    let answers = c.args.answers.now in
    let Against = StandsAgainst c.args.objective X (Ranked c.args.count answers c.args.nodes.now) in
    stops_at Against (IsNoChoiceAt X answers) NotValid refl (WrongValue ∷ order_reasons) c.verdict_at_part.result (length answers) c.in-Some-2.unspelled (rw c.in-Some-2.is at c.in_ok-unspelled-in-Some.ensures) c.verdict_at_part.ensures

pub returns-in-None : goal.returns-in-None
returns-in-None c =
    let X = c.args.inst.now in
    let answers = c.args.answers.now in
    let Against = StandsAgainst c.args.objective X (Ranked c.args.count answers c.args.nodes.now) in
    let none = rw c.in-None.is at c.in_ok-place.ensures.first in
    IfOk-weaker c.repeated_verdict.result (Tells Against order_reasons) (Tells Against claim_reasons)
    (λ verdict told.
    goes_on Against (IsNoChoiceAt X answers) NotValid refl (WrongValue ∷ order_reasons) verdict (none_unspelled c.args.objective X answers none)
    (goes_on Against (IsWrongValueAt c.args.objective X answers) WrongValue refl order_reasons verdict (none_wrong c.args.objective X answers none) told))
    c.repeated_verdict.ensures

pub returns-in-None-2 : goal.returns-in-None-2
returns-in-None-2 c =
    let X = c.args.inst.now in
    let answers = c.args.answers.now in
    let Against = StandsAgainst c.args.objective X (Ranked c.args.count answers c.args.nodes.now) in
    let spelled = rw c.in-None-2.is at c.in_ok-unspelled-in-Some.ensures in
    let first = first_wrong c.args.objective X answers (length answers) c.in-Some.place (rw c.in-Some.is at c.in_ok-place.ensures.first) spelled in
    let verdict = c.verdict_at_part-in-None-2.result in
    goes_on Against (IsNoChoiceAt X answers) NotValid refl (WrongValue ∷ order_reasons) verdict spelled
    (stops_at Against (IsWrongValueAt c.args.objective X answers) WrongValue refl order_reasons verdict (length answers) c.in-Some.place first c.verdict_at_part-in-None-2.ensures)
