use Rattle.asg_doc.proofs.Common.{map, take, ended, window_line, Wrote}
use Rattle.asg_doc.proofs.window_writer.emit_windows.Given as goal

abbrev pub invariant-windows : goal.invariant-windows
invariant-windows g l =
    Wrote g.K.Sink.written g.K.Sink.faults l.fn.out l.out l.fn.page l.page
    (ended (map window_line (take l.window-index l.windows)))
