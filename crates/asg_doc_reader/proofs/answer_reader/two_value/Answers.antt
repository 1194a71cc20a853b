use Rattle.asg_doc_reader.proofs.Common.{signed_pair_spelling}
use Rattle.asg_doc_reader.proofs.AnswerParts.{none_made, none_spaced, two_made}
use Rattle.asg_doc_reader.proofs.answer_reader.two_value.Goals as goal

pub returns-in_err-after : goal.returns-in_err-after
returns-in_err-after c = rw c.from_residual.ensures (none_made two_made c.args.text.now (λ p has is. c.in_err-after.ensures (signed_pair_spelling.bytes p) is))

pub returns-in_err-first : goal.returns-in_err-first
returns-in_err-first c = rw c.from_residual-in_err-first.ensures (none_made two_made c.args.text.now (none_spaced signed_pair_spelling c.args.text.now c.in_ok-after.field-0.now c.in_ok-after.ensures c.in_err-first.ensures))
