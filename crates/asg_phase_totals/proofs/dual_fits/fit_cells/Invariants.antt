use Rattle.asg_phase_totals.proofs.Common.{◌≡◌, ℕ, ◌+◌, ◌*◌, ◌<◌, slice_index, bit_at, FitsAt}
use Rattle.asg_phase_totals.proofs.dual_fits.fit_cells.Given as goal

-- the cells of the words so far do so
abbrev pub invariant-loop-number : goal.invariant-loop-number
invariant-loop-number g l =
    let N = g.N.SumNumber in
    (n k : ℕ) → n < l.number → k < 64 → bit_at (slice_index l.words n) k ≡ 1 → FitsAt (N.numbers l.values) (N.numbers l.columns) (N.number l.raise) (64 * n + k)
