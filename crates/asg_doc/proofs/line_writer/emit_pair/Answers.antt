use Rattle.asg_doc.proofs.Common.{append_assoc, Wrote-append, Wrote-as}
use Rattle.asg_doc.proofs.line_writer.emit_pair.Goals as goal

pub returns : goal.returns
returns g c =
    Wrote-as (simp append_assoc)
    (Wrote-append c.emit_number.ensures (Wrote-append c.emit.ensures (Wrote-append c.emit_number-2.ensures c.emit-2.ensures)))
