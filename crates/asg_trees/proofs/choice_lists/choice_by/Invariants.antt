use Rattle.asg_trees.proofs.Common.{◌≡◌, ℕ, ◌<◌, length, get_or, Option, chosen_by}
use Rattle.asg_trees.proofs.choice_lists.choice_by.Given as goal

-- the rows so far choose what their numbers say
abbrev pub invariant-loop-row : goal.invariant-loop-row
invariant-loop-row l = (length l.choice ≡ length l.numbers)
    × ((r : ℕ) (d : Option ℕ) → r < l.row → get_or l.choice r d ≡ chosen_by (get_or l.numbers r 0))
