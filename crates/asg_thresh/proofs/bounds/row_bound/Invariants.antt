use Rattle.asg_thresh.proofs.Common.{IsRowBound}
use Rattle.asg_thresh.proofs.bounds.row_bound.Given as goal

-- a row and its least grade
abbrev pub invariant-loop-row : goal.invariant-loop-row
invariant-loop-row l = IsRowBound l.grades l.side l.dearest.line l.dearest.grade
