use Rattle.asg_doc.proofs.Common.{ap, to_z-of_z, signed_decimal, w128, Wrote-append, Wrote-as}
use Rattle.asg_doc.proofs.line_writer.emit_two.Goals as goal

pub returns : goal.returns
returns g c = Wrote-append c.emit.ensures
    (Wrote-append (Wrote-as (ap signed_decimal (to_z-of_z w128 c.args.first c.ranges.first)) c.emit_signed.ensures)
    (Wrote-append c.emit-2.ensures
    (Wrote-as (ap signed_decimal (to_z-of_z w128 c.args.second c.ranges.second)) c.emit_signed-2.ensures)))
