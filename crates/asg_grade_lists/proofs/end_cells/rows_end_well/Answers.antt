use Rattle.asg_grade_lists.proofs.Common.{cell_at}
use Rattle.asg_grade_lists.proofs.EndLemmas.{rows_more}
use Rattle.asg_grade_lists.proofs.end_cells.rows_end_well.Goals as goal

pub rows-preserved : goal.rows-preserved
rows-preserved c =
    let Q = c.args.square.now in
    rows_more c.args.grade Q.side c.args.rows.now c.args.columns.now (cell_at Q) c.rows.r c.rows.invariant
    (c.row_ends_well.ensures c.if-not-row_ends_well.false)
