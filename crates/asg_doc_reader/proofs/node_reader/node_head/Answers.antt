use Rattle.asg_doc_reader.proofs.Common.{codes, Halts-front, Halts-text, ReadsOrFails-err}
use Rattle.asg_doc_reader.proofs.NodeParts.{node_head_legible}
use Rattle.asg_doc_reader.proofs.node_reader.node_head.Goals as goal

pub returns-in_err-text : goal.returns-in_err-text
returns-in_err-text c = ReadsOrFails-err c.from_residual.result c.from_residual.ensures.1 (Halts-front (codes "node ") node_head_legible c.in_err-text.ensures)

pub returns-in_err-head : goal.returns-in_err-head
returns-in_err-head c = ReadsOrFails-err c.from_residual-in_err-head.result c.from_residual-in_err-head.ensures.1
    (Halts-text (codes "node ") _ node_head_legible c.in_ok-text.ensures c.in_err-head.ensures)
