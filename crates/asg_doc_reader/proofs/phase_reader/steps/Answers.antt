use Rattle.asg_doc_reader.proofs.Common.{codes, Halts-front, Halts-text, ReadsOrFails-err}
use Rattle.asg_doc_reader.proofs.Leaves.{steps_legible}
use Rattle.asg_doc_reader.proofs.phase_reader.steps.Goals as goal

pub returns-in_err-text : goal.returns-in_err-text
returns-in_err-text c = ReadsOrFails-err c.from_residual.result c.from_residual.ensures.1
    (Halts-front (codes "steps") (steps_legible c.args.has_grades) c.in_err-text.ensures)

pub returns-in_err-steps : goal.returns-in_err-steps
returns-in_err-steps c = ReadsOrFails-err c.from_residual-in_err-steps.result c.from_residual-in_err-steps.ensures.1
    (Halts-text (codes "steps") _ (steps_legible c.args.has_grades) c.in_ok-text.ensures c.in_err-steps.ensures)
