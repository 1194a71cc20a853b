use Rattle.asg_doc.proofs.Common.{ap, to_z-of_z, signed_decimal, w128, Wrote-append, Wrote-as}
use Rattle.asg_doc.proofs.line_writer.emit_one.Goals as goal

pub returns : goal.returns
returns g c = Wrote-append c.emit.ensures
    (Wrote-as (ap signed_decimal (to_z-of_z w128 c.args.number c.ranges.number)) c.emit_signed.ensures)
