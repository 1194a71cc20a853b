use Rattle.asg_square.proofs.Common.{◌≡◌, ◌≤◌, length, first_copy}
use Rattle.asg_square.proofs.labels.run_of.Given as goal

abbrev pub invariant-loop-place : goal.invariant-loop-place
invariant-loop-place l = (l.place ≤ length l.inst.columns) × (l.first ≡ first_copy l.inst l.place) × (l.first ≤ l.c)
