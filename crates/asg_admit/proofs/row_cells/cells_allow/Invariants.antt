use Rattle.asg_admit.proofs.Common.{ℕ, ◌+◌, ◌*◌, ◌<◌, slice_get, slice_index, AllowsAt, HasBit}
use Rattle.asg_admit.proofs.row_cells.cells_allow.Given as goal

-- the cells of the words so far allow the steps
abbrev pub invariant-loop-number : goal.invariant-loop-number
invariant-loop-number g l =
    (n k : ℕ) → n < l.number → k < 64 → HasBit (slice_index l.words n) k
    → AllowsAt (g.M.Ordered.monoid_of l.m) (g.M.DMonoid.difference l.m) l.steps l.enter (slice_index l.leaves (64 * n + k)) (slice_get l.values (64 * n + k))
