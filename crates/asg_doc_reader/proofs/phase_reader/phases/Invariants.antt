use Rattle.asg_doc_reader.proofs.Common.{phase_part, counted, IsRead}
use Rattle.asg_doc_reader.proofs.phase_reader.phases.Given as goal

abbrev pub invariant-loop : goal.invariant-loop
invariant-loop l = IsRead (counted l.counter (phase_part l.has_grades)) l.fn.lines l.lines l.phases.items
