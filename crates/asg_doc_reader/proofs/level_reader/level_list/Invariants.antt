use Rattle.asg_doc_reader.proofs.Common.{level_part, counted, IsRead}
use Rattle.asg_doc_reader.proofs.level_reader.level_list.Given as goal

abbrev pub invariant-loop : goal.invariant-loop
invariant-loop l = IsRead (counted l.counter level_part) l.fn.lines l.lines l.levels.items
