use Rattle.asg_doc.proofs.Common.{take, codes, flat_map, ended, answer_lines_behind, Wrote}
use Rattle.asg_doc.proofs.answer_writer.emit_each.Given as goal

abbrev pub invariant-answers : goal.invariant-answers
invariant-answers g l =
    Wrote g.K.Sink.written g.K.Sink.faults l.fn.out l.out l.fn.page l.page
    (ended (flat_map (answer_lines_behind (codes "answer")) (take l.answer-index l.answers)))
