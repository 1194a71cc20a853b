use Rattle.asg_model.proofs.Kit.{below_more}
use Rattle.asg_dual_bounds.proofs.Common.{ℕ, slice_index, IsRowAbove}
use Rattle.asg_dual_bounds.proofs.bounds.are_rows_above.Goals as goal

pub rows-preserved : goal.rows-preserved
rows-preserved c =
    below_more (λ (r : ℕ). IsRowAbove c.args.table.now r (slice_index c.args.falls.now r) c.args.rises.now) c.rows.row c.rows.invariant
    (c.is_row_above.ensures c.if-not-is_row_above.false)
