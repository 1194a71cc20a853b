use Rattle.asg_doc_reader.proofs.Common.{codes, answer_part, counted, IsRead}
use Rattle.asg_doc_reader.proofs.ranking_reader.answer_list.Given as goal

abbrev pub invariant-loop : goal.invariant-loop
invariant-loop l = IsRead (counted l.counter (answer_part (codes "answer") l.objective)) l.fn.lines l.lines l.answers.items
