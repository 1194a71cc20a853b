use Rattle.asg_kept_cells.proofs.Common.{take, AreMetIn, kept_cells}
use Rattle.asg_kept_cells.proofs.hall_tests.met_in_word.Given as goal

-- the columns that the rows so far meet
abbrev pub invariant-loop-place : goal.invariant-loop-place
invariant-loop-place g l = AreMetIn (kept_cells l.square l.kept) (take l.place l.rows) l.number l.met
