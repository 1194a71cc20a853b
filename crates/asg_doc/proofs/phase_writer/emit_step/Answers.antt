use Rattle.asg_doc.proofs.Common.{Wrote-append}
use Rattle.asg_doc.proofs.phase_writer.emit_step.Goals as goal

pub returns-then-has_grades : goal.returns-then-has_grades
returns-then-has_grades g c = rw c.if-has_grades.true (Wrote-append c.emit_grade.ensures (Wrote-append c.emit.ensures c.emit_amount.ensures))
