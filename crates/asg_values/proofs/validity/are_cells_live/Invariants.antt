use Rattle.asg_values.proofs.Common.{ℕ, ◌<◌, IsSome, live_at, Chooses}
use Rattle.asg_values.proofs.validity.are_cells_live.Given as goal

abbrev pub invariant-loop-row : goal.invariant-loop-row
invariant-loop-row l = (r : ℕ) → r < l.row → (c : ℕ) → Chooses l.choice r c → IsSome (live_at l.inst r c)
