use Rattle.asg_doc_reader.proofs.Common.{Halts-first, Halts-second, Halts-shape, IsRead-both, IsRead-shape, ReadsOrFails-err}
use Rattle.asg_doc_reader.proofs.NodeParts.{head_own, node_shape}
use Rattle.asg_doc_reader.proofs.node_reader.node.Goals as goal

pub returns-in_err-parent : goal.returns-in_err-parent
returns-in_err-parent c = ReadsOrFails-err c.from_residual.result c.from_residual.ensures.1
    (Halts-shape (node_shape c.args.has_grades) (Halts-first (head_own c.args.has_grades) c.in_err-parent.ensures))

pub returns-in_err-own : goal.returns-in_err-own
returns-in_err-own c = ReadsOrFails-err c.from_residual-in_err-own.result c.from_residual-in_err-own.ensures.1
    (Halts-shape (node_shape c.args.has_grades) (Halts-second (head_own c.args.has_grades) c.in_ok-parent.ensures c.in_err-own.ensures))

pub returns : goal.returns
unfolding node_shape
returns c = IsRead-shape (node_shape c.args.has_grades) (IsRead-both (head_own c.args.has_grades) c.in_ok-parent.ensures c.in_ok-own.ensures)
