use Rattle.asg_doc.proofs.Common.{ap, spaced, Wrote-append, Wrote-as}
use Rattle.asg_doc.proofs.ListTexts.{window_whole}
use Rattle.asg_doc.proofs.window_writer.emit_window.Goals as goal

pub returns : goal.returns
returns g c =
    Wrote-as (window_whole c.args.window.now)
    (Wrote-append c.emit.ensures
    (Wrote-append c.emit_bounds.ensures
    (Wrote-append (Wrote-as (ap spaced c.as_slice.ensures.items) c.emit_spaced.ensures) c.emit-2.ensures)))
