use Rattle.asg_grade_lists.proofs.Common.{NoneLowerIn, cell_at}
use Rattle.asg_grade_lists.proofs.rises.rows_rise.Given as goal

-- this is so of the rows so far
abbrev pub invariant-rows : goal.invariant-rows
invariant-rows l = NoneLowerIn l.grade l.square.side l.r l.enters l.leaves (cell_at l.square)
