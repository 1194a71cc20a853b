use Rattle.asg_doc_reader.proofs.Common.{subst, status_part, IsRead, Halts-first, Halts-second, Halts-shape, Halts-stops, ReadsOrFails-err}
use Rattle.asg_doc_reader.proofs.ClaimParts.{claim_shape, status_claimed}
use Rattle.asg_doc_reader.proofs.claim_reader.claim.Goals as goal

pub returns-in_err-status : goal.returns-in_err-status
returns-in_err-status c = ReadsOrFails-err c.from_residual.result c.from_residual.ensures.1
    (Halts-shape (claim_shape c.args.objective) (Halts-first (status_claimed c.args.objective) (Halts-stops c.in_err-status.ensures)))

pub returns-in_err-answer-in-Best : goal.returns-in_err-answer-in-Best
returns-in_err-answer-in-Best c = ReadsOrFails-err c.from_residual-in_err-answer-in-Best.result c.from_residual-in_err-answer-in-Best.ensures.1
    (Halts-shape (claim_shape c.args.objective) (Halts-second (status_claimed c.args.objective) (subst (IsRead status_part c.args.lines.now c.status.new.lines) c.in-Best.is c.in_ok-status.ensures) c.in_err-answer-in-Best.ensures))

pub returns-in_err-rows-in-Nothing : goal.returns-in_err-rows-in-Nothing
returns-in_err-rows-in-Nothing c = ReadsOrFails-err c.from_residual-in_err-rows-in-Nothing.result c.from_residual-in_err-rows-in-Nothing.ensures.1
    (Halts-shape (claim_shape c.args.objective) (Halts-second (status_claimed c.args.objective) (subst (IsRead status_part c.args.lines.now c.status.new.lines) c.in-Nothing.is c.in_ok-status.ensures) c.in_err-rows-in-Nothing.ensures))

pub returns-in_err-count-in-Ranked : goal.returns-in_err-count-in-Ranked
returns-in_err-count-in-Ranked c = ReadsOrFails-err c.from_residual-in_err-count-in-Ranked.result c.from_residual-in_err-count-in-Ranked.ensures.1
    (Halts-shape (claim_shape c.args.objective) (Halts-second (status_claimed c.args.objective) (subst (IsRead status_part c.args.lines.now c.status.new.lines) c.in-Ranked.is c.in_ok-status.ensures) c.in_err-count-in-Ranked.ensures))
