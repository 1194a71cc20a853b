use Rattle.asg_admit.proofs.Common.{◌≡◌, ℕ, ◌+◌, ◌*◌, ◌<◌, length, has_mark, count_below}
use Rattle.asg_admit.proofs.counting.are_balanced.Given as goal

-- the steps of the windows so far are balanced
abbrev pub invariant-loop-window : goal.invariant-loop-window
invariant-loop-window l = (i : ℕ) → i < 2000 * l.window → i < l.count → count_below (has_mark l.enters (1 + i)) (length l.enters) ≡ count_below (has_mark l.leaves (1 + i)) (length l.leaves)
