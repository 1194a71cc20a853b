use Rattle.asg_kept_cells.proofs.Common.{ℕ, ◌<◌, HasKept, Chooses}
use Rattle.asg_kept_cells.proofs.chosen_cells.chooses_kept.Given as goal

-- each row so far has a kept cell in its column
abbrev pub invariant-loop-row : goal.invariant-loop-row
invariant-loop-row g l = (r d : ℕ) → r < l.row → Chooses l.choice r d → HasKept l.square l.kept.words r d
