use Rattle.asg_objectives.proofs.Common.{sym, subst, All-push, ArePhases, IsPhase}
use Rattle.asg_objectives.proofs.table_grades.phases_of.Goals as goal

pub phases-preserved : goal.phases-preserved
phases-preserved c = subst ArePhases (sym c.in_ok-push-2.ensures.items) (All-push IsPhase c.phases.list.items c.in_ok-phase.phase c.phases.invariant c.in_ok-phase.ensures)
