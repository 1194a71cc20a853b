use Rattle.asg_doc.proofs.Common.{Wrote-append}
use Rattle.asg_doc.proofs.answer_writer.emit_answers.Goals as goal

pub emit_each-requires : goal.emit_each-requires
emit_each-requires g c = (c.requires.0, c.requires.1.each)

pub returns : goal.returns
returns g c = Wrote-append c.emit_number_line.ensures c.emit_each.ensures
