use Rattle.asg_doc_reader.proofs.Common.{Halts-first, Halts-second, IsRead-both, ReadsOrFails-err}
use Rattle.asg_doc_reader.proofs.ClaimParts.{answer_proof}
use Rattle.asg_doc_reader.proofs.claim_reader.proved.Goals as goal

pub returns-in_err-answer : goal.returns-in_err-answer
returns-in_err-answer c = ReadsOrFails-err c.from_residual.result c.from_residual.ensures.1 (Halts-first (answer_proof c.args.objective) c.in_err-answer.ensures)

pub returns-in_err-proof : goal.returns-in_err-proof
returns-in_err-proof c = ReadsOrFails-err c.from_residual-in_err-proof.result c.from_residual-in_err-proof.ensures.1
    (Halts-second (answer_proof c.args.objective) c.in_ok-answer.ensures c.in_err-proof.ensures)

pub returns : goal.returns
returns c = IsRead-both (answer_proof c.args.objective) c.in_ok-answer.ensures c.in_ok-proof.ensures
