use Rattle.asg_app.proofs.Common.{false, sym, ◌∙◌, subst, Ends, DueForAsked, DueForPart}
use Rattle.asg_app.proofs.EditEnds.{Ends-part, part_of}
use Rattle.asg_app.proofs.answers.answer.Goals as goal

pub returns-then-is_streamed : goal.returns-then-is_streamed
returns-then-is_streamed g c =
    let asked = c.args.asked.now in
    subst (λ streamed. Ends g.K.Sink.written g.K.Sink.faults c.args.out.now c.answer_streamed.new.out streamed (DueForAsked asked.request asked.sources) (DueForPart asked.request asked.sources) c.answer_streamed.result)
    (sym (sym c.is_streamed.ensures ∙ c.if-is_streamed.true)) c.answer_streamed.ensures

pub returns-else-is_streamed : goal.returns-else-is_streamed
returns-else-is_streamed g c =
    let asked = c.args.asked.now in
    subst (λ streamed. Ends g.K.Sink.written g.K.Sink.faults c.args.out.now c.answer_whole.new.out streamed (DueForAsked asked.request asked.sources) (DueForPart asked.request asked.sources) c.answer_whole.result)
    (sym (sym c.is_streamed.ensures ∙ c.if-is_streamed.false))
    (Ends-part g.K.Sink.written g.K.Sink.faults c.args.out.now c.answer_whole.new.out false (DueForAsked asked.request asked.sources) (DueForPart asked.request asked.sources) c.answer_whole.result (part_of asked.request asked.sources) c.answer_whole.ensures)
