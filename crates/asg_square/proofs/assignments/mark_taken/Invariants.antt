use Rattle.asg_square.proofs.Common.{◌≡◌, ℕ, ◌<◌, false, not, eqb, length, get_or, None, count_below, takes}
use Rattle.asg_square.proofs.assignments.mark_taken.Given as goal

abbrev pub invariant-loop-r : goal.invariant-loop-r
invariant-loop-r l =
    (length l.taken.items ≡ length l.fn.taken.items)
    × ((c : ℕ) → c < length l.own → get_or l.taken.items c false ≡ not (eqb (count_below (λ s. takes c (get_or l.own s None)) l.r) 0))
