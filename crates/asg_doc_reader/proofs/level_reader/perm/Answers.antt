use Rattle.asg_doc_reader.proofs.Common.{codes, Halts-front, Halts-text, ReadsOrFails-err}
use Rattle.asg_doc_reader.proofs.Leaves.{perm_legible}
use Rattle.asg_doc_reader.proofs.level_reader.perm.Goals as goal

pub returns-in_err-text : goal.returns-in_err-text
returns-in_err-text c = ReadsOrFails-err c.from_residual.result c.from_residual.ensures.1 (Halts-front (codes "perm") perm_legible c.in_err-text.ensures)

pub returns-in_err-columns : goal.returns-in_err-columns
returns-in_err-columns c = ReadsOrFails-err c.from_residual-in_err-columns.result c.from_residual-in_err-columns.ensures.1
    (Halts-text (codes "perm") _ perm_legible c.in_ok-text.ensures c.in_err-columns.ensures)
