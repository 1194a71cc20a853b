use Rattle.asg_phase_totals.proofs.Common.{ℕ, ◌<◌, slice_index, FitCells, cell_at}
use Rattle.asg_phase_totals.proofs.phase_totals.rows_end_well.Given as goal

-- the cells of the rows so far are so
abbrev pub invariant-loop-row : goal.invariant-loop-row
invariant-loop-row g l =
    let N = g.N.SumNumber in
    (r : ℕ) → r < l.row → FitCells l.square.side (λ k. N.present (cell_at l.square r k)) (slice_index (N.numbers l.rows) r) (N.numbers l.columns)
