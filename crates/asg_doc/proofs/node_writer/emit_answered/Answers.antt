use Rattle.asg_doc.proofs.Common.{Wrote-append}
use Rattle.asg_doc.proofs.node_writer.emit_answered.Goals as goal

pub returns : goal.returns
returns g c = Wrote-append c.emit.ensures (Wrote-append c.emit_next.ensures c.emit_next-2.ensures)
