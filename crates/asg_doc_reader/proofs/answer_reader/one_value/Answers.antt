use Rattle.asg_doc_reader.proofs.Common.{signed_decimal, signed_spelling}
use Rattle.asg_doc_reader.proofs.AnswerParts.{none_made, none_spaced, one_made}
use Rattle.asg_doc_reader.proofs.answer_reader.one_value.Goals as goal

pub returns-in_err-after : goal.returns-in_err-after
returns-in_err-after c = rw c.from_residual.ensures (none_made one_made c.args.text.now (λ n has is. c.in_err-after.ensures (signed_decimal n) is))

pub returns-in_err-number : goal.returns-in_err-number
returns-in_err-number c = rw c.from_residual-in_err-number.ensures (none_made one_made c.args.text.now (none_spaced signed_spelling c.args.text.now c.in_ok-after.field-0.now c.in_ok-after.ensures c.in_err-number.ensures))
