use Rattle.asg_check.proofs.Common.{◌∷◌, length, refl, IfOk-weaker, IsRepeatedAt, StandsAgainst, Ranked, Tells, proof_reasons, Repeated, OutOfOrder, goes_on, stops_at}
use Rattle.asg_check.proofs.ranking_verdicts.repeated_verdict.Goals as goal

pub returns-in-Some : goal.returns-in-Some
returns-in-Some c =
    let Against = StandsAgainst c.args.objective c.args.inst.now (Ranked c.args.count c.args.answers.now c.args.nodes.now) in
    stops_at Against (IsRepeatedAt c.args.answers.now) Repeated refl (OutOfOrder ∷ proof_reasons) c.verdict_at_part.result (length c.args.answers.now) c.in-Some.place (rw c.in-Some.is at c.in_ok-place.ensures) c.verdict_at_part.ensures

pub returns-in-None : goal.returns-in-None
returns-in-None c =
    let Against = StandsAgainst c.args.objective c.args.inst.now (Ranked c.args.count c.args.answers.now c.args.nodes.now) in
    IfOk-weaker c.order_verdict.result (Tells Against (OutOfOrder ∷ proof_reasons)) (Tells Against (Repeated ∷ (OutOfOrder ∷ proof_reasons))) (λ verdict told. goes_on Against (IsRepeatedAt c.args.answers.now) Repeated refl (OutOfOrder ∷ proof_reasons) verdict (rw c.in-None.is at c.in_ok-place.ensures) told) c.order_verdict.ensures
