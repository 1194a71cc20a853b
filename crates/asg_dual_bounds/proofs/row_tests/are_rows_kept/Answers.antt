use Rattle.asg_model.proofs.Kit.{below_more}
use Rattle.asg_dual_bounds.proofs.Common.{ℕ, ◌≤◌, IsRowKept}
use Rattle.asg_dual_bounds.proofs.row_tests.are_rows_kept.Goals as goal

pub rows-preserved : goal.rows-preserved
rows-preserved c =
    below_more (λ (r : ℕ). c.args.first ≤ r → IsRowKept c.args.table.now c.args.before.now c.args.falls.now c.args.rises.now r) c.rows.row c.rows.invariant
    (λ _. c.is_row_kept.ensures c.if-not-is_row_kept.false)
