use Rattle.asg_algebra.proofs.Common.{ℕ, ◌<◌, cell_at}
use Rattle.asg_algebra.specs.LineSteps.{IsAtMostCell}
use Rattle.asg_algebra.proofs.line_steps.lowers_column.Given as goal

-- the step is at most the cells so far
abbrev pub invariant-loop-row : goal.invariant-loop-row
invariant-loop-row g l =
    (r : ℕ) → r < l.row → IsAtMostCell (g.M.Ordered.monoid_of l.m) l.step (cell_at (g.S.RowSquare.as_reduced l.square).now r l.column)
