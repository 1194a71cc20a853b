use Rattle.asg_dual_bounds.proofs.Common.{ℕ, ◌<◌, slice_index}
use Rattle.asg_dual_bounds.proofs.gaps.are_columns.Given as goal

-- the columns so far are below the number
abbrev pub invariant-rows : goal.invariant-rows
invariant-rows l =
    (r : ℕ) → r < l.row → slice_index l.columns r < l.below
