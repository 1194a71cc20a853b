use Rattle.asg_doc.proofs.Common.{Wrote-append}
use Rattle.asg_doc.proofs.document_writer.emit_phases_proof.Goals as goal

pub returns : goal.returns
returns g c = Wrote-append c.emit_number_line.ensures c.emit_phases.ensures
