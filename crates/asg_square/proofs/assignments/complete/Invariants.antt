use Rattle.asg_square.proofs.Common.{◌≡◌, ◌≤◌, map, length, get_or, None, range_with_len, count_below, lacks, completed}
use Rattle.asg_square.proofs.assignments.complete.Given as goal

abbrev pub invariant-loop-r : goal.invariant-loop-r
invariant-loop-r l =
    (l.perm.items ≡ map (completed (λ r. get_or l.own r None) (length l.own)) (range_with_len 0 l.r))
    × (l.used ≡ count_below (lacks (λ r. get_or l.own r None)) l.r)
    × (l.used ≤ l.r)
