use Rattle.asg_phase_totals.proofs.Common.{◌*◌, min, IsGreaterOf, cell_at}
use Rattle.asg_phase_totals.proofs.greatest_cells.greater_in_row.Given as goal

-- the greatest of the cells so far
abbrev pub invariant-loop-number : goal.invariant-loop-number
invariant-loop-number g l =
    let N = g.N.SumNumber in
    IsGreaterOf 0 (min (64 * l.number) l.square.side) (λ k. N.present (cell_at l.square l.row k)) (N.number l.fn.so_far) (N.number l.greatest)
