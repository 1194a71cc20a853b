use Rattle.asg_doc.proofs.Common.{Wrote-append}
use Rattle.asg_doc.proofs.node_writer.emit_tree.Goals as goal

pub returns : goal.returns
returns g c = Wrote-append c.emit_number_line.ensures c.emit_nodes.ensures
