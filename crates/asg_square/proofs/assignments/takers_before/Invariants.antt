use Rattle.asg_square.proofs.Common.{◌≡◌, ◌≤◌, takers_before}
use Rattle.asg_square.proofs.assignments.takers_before.Given as goal

abbrev pub invariant-loop-s : goal.invariant-loop-s
invariant-loop-s l = (l.takers ≡ takers_before l.choice l.d l.s) × (l.takers ≤ l.s)
