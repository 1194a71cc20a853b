use Rattle.asg_doc.proofs.Common.{take, flat_map, ended, node_lines, Wrote}
use Rattle.asg_doc.proofs.node_writer.emit_nodes.Given as goal

abbrev pub invariant-nodes : goal.invariant-nodes
invariant-nodes g l =
    Wrote g.K.Sink.written g.K.Sink.faults l.fn.out l.out l.fn.page l.page
    (ended (flat_map (node_lines l.has_grades) (take l.node-index l.nodes)))
