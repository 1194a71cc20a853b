use Rattle.asg_doc_reader.proofs.Common.{window_part, counted, IsRead}
use Rattle.asg_doc_reader.proofs.window_reader.windows.Given as goal

abbrev pub invariant-loop : goal.invariant-loop
invariant-loop l = IsRead (counted l.counter window_part) l.fn.lines l.lines l.windows.items
