use Rattle.asg_admit.proofs.Common.{phase_of}
use Rattle.asg_admit.proofs.SteppedLemmas.{StepsTo}
use Rattle.asg_admit.proofs.replaying.take_steps.Given as goal

-- the square is that after the steps so far
abbrev pub invariant-loop-t : goal.invariant-loop-t
invariant-loop-t g l = StepsTo (g.M.Ordered.monoid_of l.m) (g.M.DMonoid.difference l.m) (phase_of l.steps l.enters l.leaves) l.fn.square l.square l.t
