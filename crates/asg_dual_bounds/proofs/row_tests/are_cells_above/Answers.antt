use Rattle.asg_dual_bounds.proofs.Common.{slice_index, IsCellAbove}
use Rattle.asg_model.proofs.Kit.{below_more}
use Rattle.asg_dual_bounds.proofs.row_tests.are_cells_above.Goals as goal

pub rows-preserved : goal.rows-preserved
rows-preserved c =
    below_more (λ r. IsCellAbove c.args.table.now r (slice_index c.args.columns.now r) (slice_index c.args.falls.now r) c.args.rises.now) _
    c.rows.invariant (c.is_cell_above.ensures c.if-not-is_cell_above.false)
