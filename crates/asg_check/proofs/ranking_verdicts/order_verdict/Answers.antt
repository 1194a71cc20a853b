use Rattle.asg_check.proofs.Common.{◌∷◌, length, refl, IfOk-weaker, IsOutOfOrderAt, StandsAgainst, Ranked, Tells, proof_reasons, OutOfOrder, goes_on, stops_at}
use Rattle.asg_check.proofs.ranking_verdicts.order_verdict.Goals as goal

pub returns-in-Some : goal.returns-in-Some
returns-in-Some c =
    let Against = StandsAgainst c.args.objective c.args.inst.now (Ranked c.args.count c.args.answers.now c.args.nodes.now) in
    stops_at Against (IsOutOfOrderAt c.args.objective c.args.answers.now) OutOfOrder refl proof_reasons c.verdict_at_part.result (length c.args.answers.now) c.in-Some.place (rw c.in-Some.is at c.first_out_of_order.ensures) c.verdict_at_part.ensures

pub returns-in-None : goal.returns-in-None
returns-in-None c =
    let Against = StandsAgainst c.args.objective c.args.inst.now (Ranked c.args.count c.args.answers.now c.args.nodes.now) in
    IfOk-weaker c.proof_verdict.result (Tells Against proof_reasons) (Tells Against (OutOfOrder ∷ proof_reasons)) (λ verdict told. goes_on Against (IsOutOfOrderAt c.args.objective c.args.answers.now) OutOfOrder refl proof_reasons verdict (rw c.in-None.is at c.first_out_of_order.ensures) told) c.proof_verdict.ensures
