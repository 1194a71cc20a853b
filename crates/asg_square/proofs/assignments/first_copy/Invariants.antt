use Rattle.asg_square.proofs.Common.{◌≡◌, ◌*◌, ◌≤◌, first_copy}
use Rattle.asg_square.proofs.assignments.first_copy.Given as goal

abbrev pub invariant-loop-place : goal.invariant-loop-place
invariant-loop-place l = (l.first ≡ first_copy l.inst l.place) × (l.first ≤ 1000 * l.place) × (l.place ≤ l.d)
