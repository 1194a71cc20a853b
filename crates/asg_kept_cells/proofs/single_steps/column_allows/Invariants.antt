use Rattle.asg_kept_cells.proofs.Common.{◌≡◌, ℕ, ◌<◌, slice_index, IsAtMostCell, cell_at, masked_grid}
use Rattle.asg_kept_cells.proofs.single_steps.column_allows.Given as goal

-- the cells of the rows so far allow the step
abbrev pub invariant-loop-row : goal.invariant-loop-row
invariant-loop-row g l =
    (r : ℕ) → r < l.row → slice_index l.enters r ≡ 0 → IsAtMostCell (g.M.Ordered.monoid_of l.m) l.c (cell_at (masked_grid l.square l.kept.words) r l.column)
