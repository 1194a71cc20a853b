use Rattle.asg_grade_lists.proofs.Common.{cell_at}
use Rattle.asg_grade_lists.proofs.RiseLemmas.{rows_more}
use Rattle.asg_grade_lists.proofs.rises.rows_rise.Goals as goal

pub rows-preserved : goal.rows-preserved
rows-preserved c =
    let Q = c.args.square.now in
    rows_more c.args.grade Q.side c.args.enters.now c.args.leaves.now (cell_at Q) c.rows.r c.rows.invariant
    (c.row_rises.ensures c.if-not-row_rises.false)
