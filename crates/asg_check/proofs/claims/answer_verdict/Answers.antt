use Rattle.asg_check.proofs.Common.{◌∙◌, IfOk-weaker, StandsAgainst, Best, Tells, claim_reasons, proof_reasons}
use Rattle.asg_check.proofs.Certified.{to_proof}
use Rattle.asg_check.proofs.claims.answer_verdict.Goals as goal

pub returns : goal.returns
returns c =
    let objective = c.args.objective in
    let X = c.args.inst.now in
    let claim = Best c.args.answer.now c.args.proof.now in
    let w = rw c.as_slice.ensures.items at (rw c.in-Some.is at c.in_ok-choice.ensures.some) in
    IfOk-weaker c.proof_verdict.result (Tells (StandsAgainst objective X claim) proof_reasons) (Tells (StandsAgainst objective X claim) claim_reasons)
    (λ verdict told.
    to_proof objective X c.in_ok-choice.ensures.instance c.args.answer.now c.args.proof.now c.in-Some.choice verdict w
    (c.is_same_value.ensures.0 c.if-not-is_same_value.false ∙ c.in_ok-right.ensures.exact) told)
    c.proof_verdict.ensures
