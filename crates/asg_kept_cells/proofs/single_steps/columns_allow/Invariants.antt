use Rattle.asg_kept_cells.proofs.Common.{ℕ, ◌<◌, slice_index, AllowsColumn, masked_grid}
use Rattle.asg_kept_cells.proofs.single_steps.columns_allow.Given as goal

-- the columns so far allow the step
abbrev pub invariant-loop-column : goal.invariant-loop-column
invariant-loop-column g l =
    (k : ℕ) → k < l.column → 0 < slice_index l.leaves k → AllowsColumn (g.M.Ordered.monoid_of l.m) l.c l.enters (masked_grid l.square l.kept.words) k
