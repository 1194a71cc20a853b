use Rattle.asg_doc_reader.proofs.Common.{Halts-first, Halts-second, Halts-shape, ReadsOrFails-err}
use Rattle.asg_doc_reader.proofs.PhaseParts.{phase_shape, steps_enters, enters_leaves}
use Rattle.asg_doc_reader.proofs.phase_reader.phase.Goals as goal

pub returns-in_err-steps : goal.returns-in_err-steps
returns-in_err-steps c = ReadsOrFails-err c.from_residual.result c.from_residual.ensures.1
    (Halts-shape (phase_shape c.args.has_grades) (Halts-first (steps_enters c.args.has_grades) c.in_err-steps.ensures))

pub returns-in_err-enters : goal.returns-in_err-enters
returns-in_err-enters c = ReadsOrFails-err c.from_residual-in_err-enters.result c.from_residual-in_err-enters.ensures.1
    (Halts-shape (phase_shape c.args.has_grades) (Halts-second (steps_enters c.args.has_grades) c.in_ok-steps.ensures (Halts-first enters_leaves c.in_err-enters.ensures)))

pub returns-in_err-leaves : goal.returns-in_err-leaves
returns-in_err-leaves c = ReadsOrFails-err c.from_residual-in_err-leaves.result c.from_residual-in_err-leaves.ensures.1
    (Halts-shape (phase_shape c.args.has_grades) (Halts-second (steps_enters c.args.has_grades) c.in_ok-steps.ensures (Halts-second enters_leaves c.in_ok-enters.ensures c.in_err-leaves.ensures)))
