use Rattle.asg_dual_bounds.proofs.Common.{ℕ, ◌<◌, ◌≤◌, IsRowKept}
use Rattle.asg_dual_bounds.proofs.row_tests.are_rows_kept.Given as goal

-- the rows so far are kept
abbrev pub invariant-rows : goal.invariant-rows
invariant-rows l =
    (r : ℕ) → r < l.row → l.first ≤ r → IsRowKept l.table l.before l.falls l.rises r
