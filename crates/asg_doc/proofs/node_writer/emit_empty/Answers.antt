use Rattle.asg_doc.proofs.Common.{Wrote-append}
use Rattle.asg_doc.proofs.node_writer.emit_empty.Goals as goal

pub returns : goal.returns
returns g c = λ count. Wrote-append c.emit.ensures c.emit_spaced.ensures
