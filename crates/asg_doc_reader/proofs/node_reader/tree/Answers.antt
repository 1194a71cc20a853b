use Rattle.asg_doc_reader.proofs.Common.{Halts-first, Halts-second, Halts-shape, Halts-stops, IsRead-both, IsRead-shape, ReadsOrFails-err}
use Rattle.asg_doc_reader.proofs.NodeParts.{counted_nodes, tree_shape}
use Rattle.asg_doc_reader.proofs.node_reader.tree.Goals as goal

pub returns-in_err-count : goal.returns-in_err-count
returns-in_err-count c = ReadsOrFails-err c.from_residual.result c.from_residual.ensures.1
    (Halts-shape (tree_shape c.args.has_grades) (Halts-first (counted_nodes c.args.has_grades) (Halts-stops c.in_err-count.ensures)))

pub returns-in_err-nodes : goal.returns-in_err-nodes
returns-in_err-nodes c = ReadsOrFails-err c.from_residual-in_err-nodes.result c.from_residual-in_err-nodes.ensures.1
    (Halts-shape (tree_shape c.args.has_grades) (Halts-second (counted_nodes c.args.has_grades) c.in_ok-count.ensures c.in_err-nodes.ensures))

pub returns : goal.returns
unfolding tree_shape
returns c = IsRead-shape (tree_shape c.args.has_grades) (IsRead-both (counted_nodes c.args.has_grades) c.in_ok-count.ensures c.in_ok-nodes.ensures)
