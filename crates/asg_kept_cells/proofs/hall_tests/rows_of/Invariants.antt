use Rattle.asg_kept_cells.proofs.Common.{take, AreRowsOf}
use Rattle.asg_kept_cells.proofs.hall_tests.rows_of.Given as goal

-- the rows so far
abbrev pub invariant-loop-place : goal.invariant-loop-place
invariant-loop-place l = AreRowsOf l.inst (take l.place l.ids) l.rows.items
