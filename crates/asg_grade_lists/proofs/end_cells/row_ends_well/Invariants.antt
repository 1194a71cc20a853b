use Rattle.asg_grade_lists.proofs.Common.{RowEndsWell, cell_at}
use Rattle.asg_grade_lists.proofs.end_cells.row_ends_well.Given as goal

-- the cells so far end well
abbrev pub invariant-columns : goal.invariant-columns
invariant-columns l = RowEndsWell l.grade l.k l.row l.columns (cell_at l.square l.r)
