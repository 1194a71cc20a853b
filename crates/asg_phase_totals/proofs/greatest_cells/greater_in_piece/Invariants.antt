use Rattle.asg_phase_totals.proofs.Common.{IsGreaterOf, cell_at}
use Rattle.asg_phase_totals.proofs.greatest_cells.greater_in_piece.Given as goal

-- the greatest of the cells so far
abbrev pub invariant-loop-column : goal.invariant-loop-column
invariant-loop-column g l =
    let N = g.N.SumNumber in
    IsGreaterOf l.from l.column (λ k. N.present (cell_at l.square l.row k)) (N.number l.fn.so_far) (N.number l.greatest)
