use Rattle.asg_doc.proofs.Common.{map, take, ended, cell_line, Wrote}
use Rattle.asg_doc.proofs.line_writer.emit_cells.Given as goal

abbrev pub invariant-cells : goal.invariant-cells
invariant-cells g l =
    Wrote g.K.Sink.written g.K.Sink.faults l.fn.out l.out l.fn.page l.page
    (ended (map cell_line (take l.cell-index l.cells)))
