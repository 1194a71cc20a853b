use Rattle.asg_engine_tests.proofs.Common.{IfSome, IsLive}
use Rattle.asg_engine_tests.proofs.solvers.are_phases.Given as goal

-- the trail that is left is live
abbrev pub invariant-loop-phase : goal.invariant-loop-phase
invariant-loop-phase l = IfSome l.next (IsLive l.region)
