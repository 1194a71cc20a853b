use Rattle.asg_algebra.proofs.Common.{ℕ, ◌<◌, cell_at}
use Rattle.asg_algebra.specs.LineSteps.{IsAtMostCell}
use Rattle.asg_algebra.proofs.line_steps.lowers_row.Given as goal

-- the step is at most the cells so far
abbrev pub invariant-loop-column : goal.invariant-loop-column
invariant-loop-column g l =
    (k : ℕ) → k < l.column → IsAtMostCell (g.M.Ordered.monoid_of l.m) l.step (cell_at (g.S.RowSquare.as_reduced l.square).now l.row k)
