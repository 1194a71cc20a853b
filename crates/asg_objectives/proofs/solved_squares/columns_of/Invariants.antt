use Rattle.asg_objectives.proofs.Common.{◌≡◌, ℕ, ◌<◌, length, get_or, Matches}
use Rattle.asg_objectives.proofs.solved_squares.columns_of.Given as goal

-- the columns so far are those of the rows so far
abbrev pub invariant-loop-r : goal.invariant-loop-r
invariant-loop-r l =
    (length l.columns.items ≡ l.r) × ((k : ℕ) → k < l.r → Matches l.matching k (get_or l.columns.items k 0))
