use Rattle.asg_kept.proofs.Common.{◌≡◌, ℕ, ◌<◌, ◌≤◌, slice_index, option_map, KeepsLabels, dual_value, cell_at}
use Rattle.asg_kept.proofs.dual_cells.write_cells.Given as goal

-- the rows so far are written, and the others stand
abbrev pub invariant-loop-row : goal.invariant-loop-row
invariant-loop-row g l =
    record {
      labels : KeepsLabels l.fn.square l.square;
      done : (r k : ℕ) → r < l.row → k < l.fn.square.side → g.N.SumNumber.present (cell_at l.square r k) ≡ option_map (dual_value (slice_index (g.N.SumNumber.numbers l.rows) r) (slice_index (g.N.SumNumber.numbers l.columns) k)) (g.N.SumNumber.present (cell_at l.fn.square r k));
      rest : (r k : ℕ) → l.row ≤ r → cell_at l.square r k ≡ cell_at l.fn.square r k;
    }
