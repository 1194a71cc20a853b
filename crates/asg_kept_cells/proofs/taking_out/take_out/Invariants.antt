use Rattle.asg_kept_cells.proofs.Common.{TakesOutRows}
use Rattle.asg_kept_cells.proofs.taking_out.take_out.Given as goal

-- the rows so far
abbrev pub invariant-loop-row : goal.invariant-loop-row
invariant-loop-row g l = TakesOutRows l.kept l.row l.initial.square l.square
