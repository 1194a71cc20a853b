use Rattle.asg_doc_reader.proofs.Common.{cell_part, counted, IsRead}
use Rattle.asg_doc_reader.proofs.answer_reader.cells.Given as goal

abbrev pub invariant-loop : goal.invariant-loop
invariant-loop l = IsRead (counted l.counter cell_part) l.fn.lines l.lines l.cells.items
