use Rattle.asg_doc_reader.proofs.Common.{arith, Halts-counted, IsRead-more, ReadsOrFails-err}
use Rattle.asg_doc_reader.proofs.PhaseParts.{phase_law, ArePhases-from_text}
use Rattle.asg_doc_reader.proofs.phase_reader.phases.Goals as goal

pub returns-in_err-phase : goal.returns-in_err-phase
returns-in_err-phase c = ReadsOrFails-err c.from_residual.result c.from_residual.ensures.1
    (Halts-counted (phase_law c.args.has_grades) c.loop.invariant (omega arith) c.in_err-phase.ensures)

pub from_vec-requires : goal.from_vec-requires
from_vec-requires c = rw c.shrink_to_fit.ensures.items (ArePhases-from_text c.args.has_grades c.loop.phases.items c.loop.invariant.has.1)

pub loop-preserved : goal.loop-preserved
loop-preserved c = rw c.in_ok-push.ensures.items (IsRead-more c.loop.invariant c.in_ok-phase.ensures)
