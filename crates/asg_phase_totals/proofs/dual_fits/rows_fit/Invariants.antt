use Rattle.asg_phase_totals.proofs.Common.{ℕ, ◌<◌, slice_index, FitsRow, cell_at}
use Rattle.asg_phase_totals.proofs.dual_fits.rows_fit.Given as goal

-- the rows so far allow the steps
abbrev pub invariant-loop-row : goal.invariant-loop-row
invariant-loop-row g l =
    let N = g.N.SumNumber in
    (r : ℕ) → r < l.row → FitsRow l.square.side (λ k. N.present (cell_at l.square r k)) (slice_index (N.numbers l.rows) r) (N.numbers l.columns) (N.numbers l.steps) (slice_index l.enters r)
