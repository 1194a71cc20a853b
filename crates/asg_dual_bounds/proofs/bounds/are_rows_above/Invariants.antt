use Rattle.asg_dual_bounds.proofs.Common.{ℕ, ◌<◌, slice_index, IsRowAbove}
use Rattle.asg_dual_bounds.proofs.bounds.are_rows_above.Given as goal

-- the rows so far are at least their falls
abbrev pub invariant-rows : goal.invariant-rows
invariant-rows l =
    (r : ℕ) → r < l.row → IsRowAbove l.table r (slice_index l.falls r) l.rises
