use Rattle.asg_doc.proofs.Common.{Wrote-append}
use Rattle.asg_doc.proofs.level_writer.emit_levels_proof.Goals as goal

pub returns : goal.returns
returns g c = Wrote-append c.emit_number_line.ensures (Wrote-append c.emit_perm.ensures c.emit_levels.ensures)
