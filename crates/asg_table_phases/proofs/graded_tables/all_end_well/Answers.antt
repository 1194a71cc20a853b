use Rattle.std.proofs.Common.{of_z, to_z, w64}
use Rattle.asg_table_phases.proofs.GradedEnds.{rows_more}
use Rattle.asg_table_phases.proofs.graded_tables.all_end_well.Goals as goal

pub rows-preserved : goal.rows-preserved
rows-preserved c =
    rows_more c.args.inst.now c.args.rows.now c.args.columns.now (to_z w64 (of_z w64 c.args.limit)) c.rows.row c.rows.invariant
    (c.row_ends_well.ensures c.if-not-row_ends_well.false)
