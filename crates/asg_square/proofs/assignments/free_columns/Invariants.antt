use Rattle.asg_square.proofs.Common.{◌≡◌, ◌-◌, false, not, ◌++◌, length, get_or, passing_below}
use Rattle.asg_square.proofs.assignments.free_columns.Given as goal

abbrev pub invariant-loop-i : goal.invariant-loop-i
invariant-loop-i l =
    l.free.items ++ passing_below (λ c. not (get_or l.taken c false)) (length l.taken - l.i) ≡ passing_below (λ c. not (get_or l.taken c false)) (length l.taken)
