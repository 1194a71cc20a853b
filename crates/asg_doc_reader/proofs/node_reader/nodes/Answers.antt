use Rattle.asg_doc_reader.proofs.Common.{arith, Halts-counted, IsRead-more, ReadsOrFails-err}
use Rattle.asg_doc_reader.proofs.NodeParts.{node_law, AreNodeParts-from_text}
use Rattle.asg_doc_reader.proofs.node_reader.nodes.Goals as goal

pub returns-in_err-node : goal.returns-in_err-node
returns-in_err-node c = ReadsOrFails-err c.from_residual.result c.from_residual.ensures.1
    (Halts-counted (node_law c.args.has_grades) c.loop.invariant (omega arith) c.in_err-node.ensures)

pub from_vec-requires : goal.from_vec-requires
from_vec-requires c = rw c.shrink_to_fit.ensures.items (AreNodeParts-from_text c.args.has_grades c.loop.nodes.items c.loop.invariant.has.1)

pub loop-preserved : goal.loop-preserved
loop-preserved c = rw c.in_ok-push.ensures.items (IsRead-more c.loop.invariant c.in_ok-node.ensures)
