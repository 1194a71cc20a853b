use Rattle.asg_admit.proofs.Common.{AreBalanced}
use Rattle.asg_admit.proofs.counting.are_counts_equal.Given as goal

-- the steps so far are balanced
abbrev pub invariant-loop-i : goal.invariant-loop-i
invariant-loop-i l = AreBalanced l.enters l.leaves l.first l.i
