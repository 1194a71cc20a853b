use Rattle.asg_grade_lists.proofs.Common.{RowsEndWell, cell_at}
use Rattle.asg_grade_lists.proofs.end_cells.rows_end_well.Given as goal

-- the rows so far end well
abbrev pub invariant-rows : goal.invariant-rows
invariant-rows l = RowsEndWell l.grade l.square.side l.r l.rows l.columns (cell_at l.square)
