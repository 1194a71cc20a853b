use Rattle.asg_admit.proofs.Common.{ℕ, ◌<◌, slice_index, AllowsRow, masked_grid}
use Rattle.asg_admit.proofs.admission_within.kept_rows_allow.Given as goal

-- the rows so far allow the steps
abbrev pub invariant-loop-row : goal.invariant-loop-row
invariant-loop-row g l =
    (r : ℕ) → r < l.row → AllowsRow (g.M.Ordered.monoid_of l.m) (g.M.DMonoid.difference l.m) l.steps (slice_index l.enters r) l.leaves (masked_grid l.square l.kept) r
