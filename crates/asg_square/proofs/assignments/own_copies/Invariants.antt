use Rattle.asg_square.proofs.Common.{◌≡◌, map, range_with_len, own_copy}
use Rattle.asg_square.proofs.assignments.own_copies.Given as goal

abbrev pub invariant-loop-r : goal.invariant-loop-r
invariant-loop-r l = l.own.items ≡ map (own_copy l.inst l.choice) (range_with_len 0 l.r)
