use Rattle.asg_sum_edits.proofs.Common.{ℕ, ◌<◌, slice_index, IsRowAbove}
use Rattle.asg_sum_edits.proofs.row_tests.rows_are_held.Given as goal

-- the rows so far hold
abbrev pub invariant-rows : goal.invariant-rows
invariant-rows l = (r : ℕ) → r < l.row → IsRowAbove l.objective l.inst r (slice_index l.falls r) l.rises
