use Rattle.asg_doc_reader.proofs.Common.{Halts-first, Halts-second, Halts-shape, Halts-stops, ReadsOrFails-err}
use Rattle.asg_doc_reader.proofs.ClaimParts.{document_shape, title_command, command_objective, objective_claim}
use Rattle.asg_doc_reader.proofs.document_reader.document.Goals as goal

pub returns-in_err-pass : goal.returns-in_err-pass
returns-in_err-pass c = ReadsOrFails-err c.from_residual.result c.from_residual.ensures.1 (Halts-shape document_shape (Halts-first title_command (Halts-stops c.in_err-pass.ensures)))

pub returns-in_err-command : goal.returns-in_err-command
returns-in_err-command c = ReadsOrFails-err c.from_residual-in_err-command.result c.from_residual-in_err-command.ensures.1
    (Halts-shape document_shape (Halts-second title_command c.in_ok-pass.ensures (Halts-first command_objective (Halts-stops c.in_err-command.ensures))))

pub returns-in_err-objective : goal.returns-in_err-objective
returns-in_err-objective c = ReadsOrFails-err c.from_residual-in_err-objective.result c.from_residual-in_err-objective.ensures.1
    (Halts-shape document_shape (Halts-second title_command c.in_ok-pass.ensures (Halts-second command_objective c.in_ok-command.ensures (Halts-first objective_claim (Halts-stops c.in_err-objective.ensures)))))

pub returns-in_err-claim : goal.returns-in_err-claim
returns-in_err-claim c = ReadsOrFails-err c.from_residual-in_err-claim.result c.from_residual-in_err-claim.ensures.1
    (Halts-shape document_shape (Halts-second title_command c.in_ok-pass.ensures (Halts-second command_objective c.in_ok-command.ensures (Halts-second objective_claim c.in_ok-objective.ensures c.in_err-claim.ensures))))
