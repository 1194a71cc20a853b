use Rattle.asg_doc_reader.proofs.Common.{node_part, counted, IsRead}
use Rattle.asg_doc_reader.proofs.node_reader.nodes.Given as goal

abbrev pub invariant-loop : goal.invariant-loop
invariant-loop l = IsRead (counted l.counter (node_part l.has_grades)) l.fn.lines l.lines l.nodes.items
