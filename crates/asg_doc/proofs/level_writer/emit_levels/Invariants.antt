use Rattle.asg_doc.proofs.Common.{take, flat_map, ended, level_lines, Wrote}
use Rattle.asg_doc.proofs.level_writer.emit_levels.Given as goal

abbrev pub invariant-levels : goal.invariant-levels
invariant-levels g l =
    Wrote g.K.Sink.written g.K.Sink.faults l.fn.out l.out l.fn.page l.page
    (ended (flat_map level_lines (take l.level-index l.levels)))
