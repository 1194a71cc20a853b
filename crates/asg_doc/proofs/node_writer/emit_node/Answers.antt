use Rattle.asg_doc.proofs.Common.{flat_map, ap, ended, phase_lines, Wrote-append, Wrote-as}
use Rattle.asg_doc.proofs.node_writer.emit_node.Goals as goal

pub returns : goal.returns
returns g c = Wrote-append c.emit_node_head.ensures
    (Wrote-as (ap (λ phases. ended (flat_map (phase_lines c.args.has_grades) phases)) c.as_slice.ensures.items) c.emit_phases.ensures)
