use Rattle.asg_doc.proofs.Common.{ap, to_z-of_z, signed_decimal, Wrote-append, Wrote-as, w64}
use Rattle.asg_doc.proofs.window_writer.emit_bounds.Goals as goal

pub returns : goal.returns
returns g c =
    let window = c.args.window.now in
    Wrote-append (Wrote-as (ap signed_decimal (to_z-of_z w64 window.lo c.requires.lo_fits)) c.emit_bound.ensures)
    (Wrote-append c.emit.ensures (Wrote-as (ap signed_decimal (to_z-of_z w64 window.hi c.requires.hi_fits)) c.emit_bound-2.ensures))
