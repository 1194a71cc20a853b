use Rattle.asg_doc_reader.proofs.Common.{codes, Halts-front, Halts-text, ReadsOrFails-err}
use Rattle.asg_doc_reader.proofs.WindowParts.{window_legible}
use Rattle.asg_doc_reader.proofs.window_reader.window.Goals as goal

pub returns-in_err-text : goal.returns-in_err-text
returns-in_err-text c = ReadsOrFails-err c.from_residual.result c.from_residual.ensures.1
    (Halts-front (codes "window ") window_legible c.in_err-text.ensures)

pub returns-in_err-window : goal.returns-in_err-window
returns-in_err-window c = ReadsOrFails-err c.from_residual-in_err-window.result c.from_residual-in_err-window.ensures.1
    (Halts-text (codes "window ") _ window_legible c.in_ok-text.ensures c.in_err-window.ensures)
