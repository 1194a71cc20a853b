use Rattle.asg_app.proofs.Common.{◌≡◌, true, IfSome, Some, sym, ap, ◌∙◌, subst, Ends, DueForAsked, DueForPart, is_streamed, IsRequest}
use Rattle.asg_app.proofs.answers.answer_streamed.Goals as goal

pub answer-requires-clause-within : goal.answer-requires-clause-within
answer-requires-clause-within g c =
    let here = c.in-Some-Work in
    let work = rw here.is at here.field-0-is in
    subst (λ asked. IfSome asked IsRequest) (here.is ∙ ap Some work) c.requires.within

pub answer-requires-clause-edits : goal.answer-requires-clause-edits
answer-requires-clause-edits g c =
    let here = c.in-Some-Work in
    let work = rw here.is at here.field-0-is in
    subst (λ asked. is_streamed asked ≡ true) (here.is ∙ ap Some work) c.requires.streamed

pub returns : goal.returns
returns g c =
    let here = c.in-Some-Work in
    let work = rw here.is at here.field-0-is in
    subst (λ asked. Ends g.K.Sink.written g.K.Sink.faults c.args.out.now c.answer.new.out true (DueForAsked asked c.args.asked.now.sources) (DueForPart asked c.args.asked.now.sources) c.answer.result) (sym (here.is ∙ ap Some work)) c.answer.ensures
