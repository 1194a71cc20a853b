use Rattle.asg_doc.proofs.Common.{false, flat_map, ap, ended, phase_lines, Wrote-append, Wrote-as}
use Rattle.asg_doc.proofs.level_writer.emit_level.Goals as goal

pub returns : goal.returns
returns g c = Wrote-append c.emit_level_head.ensures
    (Wrote-as (ap (λ phases. ended (flat_map (phase_lines false) phases)) c.as_slice.ensures.items) c.emit_phases.ensures)
