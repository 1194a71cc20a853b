use Rattle.asg_doc.proofs.Common.{take, spaced_columns, Wrote}
use Rattle.asg_doc.proofs.level_writer.emit_columns.Given as goal

abbrev pub invariant-columns : goal.invariant-columns
invariant-columns g l =
    Wrote g.K.Sink.written g.K.Sink.faults l.fn.out l.out l.fn.page l.page
    (spaced_columns (take l.column-index l.columns))
