use Rattle.asg_doc_reader.proofs.phase_reader.graded_step.Goals as goal

pub returns-in_err-grade : goal.returns-in_err-grade
returns-in_err-grade c = rw c.from_residual.ensures (λ step fits is. c.in_err-grade.ensures (step.grade, step.amount) fits is)
