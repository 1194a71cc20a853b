use Rattle.asg_doc_reader.proofs.AnswerParts.{fails_made, many_made}
use Rattle.asg_doc_reader.proofs.answer_reader.many_value.Goals as goal

pub returns-in_err-costs : goal.returns-in_err-costs
returns-in_err-costs c = fails_made many_made c.args.text.now c.in_err-costs.field-0.0 c.from_residual.result c.from_residual.ensures.1 c.in_err-costs.ensures
