use Rattle.asg_phase_totals.proofs.Common.{IsGreatest, cell_at}
use Rattle.asg_phase_totals.proofs.greatest_cells.greatest_cell.Given as goal

-- the greatest of the rows so far
abbrev pub invariant-loop-row : goal.invariant-loop-row
invariant-loop-row g l = IsGreatest l.row (λ r k. g.N.SumNumber.present (cell_at l.square r k)) (g.N.SumNumber.number l.greatest)
