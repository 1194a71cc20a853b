use Rattle.asg_dual_bounds.proofs.Common.{ℕ, ◌<◌, slice_index, IsCellAbove}
use Rattle.asg_dual_bounds.proofs.row_tests.are_cells_above.Given as goal

-- the cells so far are at least their falls
abbrev pub invariant-rows : goal.invariant-rows
invariant-rows l =
    (r : ℕ) → r < l.row → IsCellAbove l.table r (slice_index l.columns r) (slice_index l.falls r) l.rises
