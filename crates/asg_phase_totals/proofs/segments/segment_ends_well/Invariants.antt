use Rattle.asg_phase_totals.proofs.Common.{ℕ, ◌<◌, slice_index, FitCells, cell_at}
use Rattle.asg_phase_totals.proofs.segments.segment_ends_well.Given as goal

-- the cells of the rows so far are so
abbrev pub invariant-loop-row : goal.invariant-loop-row
invariant-loop-row g l =
    let N = g.N.SumNumber in
    (r : ℕ) → r < l.row → slice_index l.segment.rows r < l.segment.sum
    → FitCells l.square.side (λ k. N.present (cell_at l.square r k)) (slice_index (N.numbers l.rows) r) (N.numbers l.columns)
