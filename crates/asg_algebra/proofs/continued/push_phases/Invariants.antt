use Rattle.asg_algebra.proofs.Common.{take, ArePushed}
use Rattle.asg_algebra.proofs.continued.push_phases.Given as goal

-- the phases so far were pushed
abbrev pub invariant-phases : goal.invariant-phases
invariant-phases g l = ArePushed (take l.k l.given) l.fn.region l.region l.fn.trail l.last
