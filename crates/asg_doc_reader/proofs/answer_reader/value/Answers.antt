use Rattle.asg_doc_reader.proofs.Common.{Err, subst, value_spelling, form_of, SpellsOrFails, Halts-front, Halts-text, ReadsOrFails-err}
use Rattle.asg_doc_reader.proofs.AnswerParts.{value_legible}
use Rattle.asg_doc_reader.proofs.answer_reader.value.Goals as goal

pub returns-in_err-text : goal.returns-in_err-text
returns-in_err-text c = ReadsOrFails-err c.from_residual.result c.from_residual.ensures.1
    (Halts-front c.args.word.now (value_legible (form_of c.args.objective)) c.in_err-text.ensures)

pub returns-in_err-value : goal.returns-in_err-value
returns-in_err-value c = ReadsOrFails-err c.from_residual-in_err-value.result c.from_residual-in_err-value.ensures.1
    (Halts-text c.args.word.now _ (value_legible (form_of c.args.objective)) c.in_ok-text.ensures
    (subst (λ form. SpellsOrFails (value_spelling form) c.in_ok-text.text.now (Err c.in_err-value.field-0.0)) c.form_of.ensures c.in_err-value.ensures))
