use Rattle.asg_doc.proofs.Common.{take, flat_map, ended, phase_lines, Wrote}
use Rattle.asg_doc.proofs.phase_writer.emit_phases.Given as goal

abbrev pub invariant-phases : goal.invariant-phases
invariant-phases g l =
    Wrote g.K.Sink.written g.K.Sink.faults l.fn.out l.out l.fn.page l.page
    (ended (flat_map (phase_lines l.has_grades) (take l.phase-index l.phases)))
