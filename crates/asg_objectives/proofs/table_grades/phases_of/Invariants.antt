use Rattle.asg_objectives.proofs.Common.{ArePhases}
use Rattle.asg_objectives.proofs.table_grades.phases_of.Given as goal

-- each phase so far is one
abbrev pub invariant-phases : goal.invariant-phases
invariant-phases l = ArePhases l.list.items
