use Rattle.asg_doc.proofs.Common.{Wrote-append}
use Rattle.asg_doc.proofs.phase_writer.emit_step_line.Goals as goal

pub returns : goal.returns
returns g c = Wrote-append c.emit.ensures (Wrote-append c.emit_steps.ensures c.emit-2.ensures)
