use Rattle.asg_settling.proofs.Common.{◌≡◌, ℕ, ◌<◌, ◌≤◌, length, slice_index, KeepsLabels, phase_of, settled_at, cell_at}
use Rattle.asg_settling.proofs.settling.settle_waiting.Given as goal

-- the waiting rows so far are settled, and the others stand
abbrev pub invariant-loop-row : goal.invariant-loop-row
invariant-loop-row g l =
    let phase = phase_of l.steps l.enters l.leaves in
    record {
      labels : KeepsLabels l.fn.square l.square;
      done : (r k : ℕ) → r < l.row → k < l.fn.square.side → length l.steps ≤ slice_index l.enters r → cell_at l.square r k ≡ settled_at (g.M.Ordered.monoid_of l.m) (g.M.DMonoid.difference l.m) phase (cell_at l.fn.square) r k;
      entered : (r k : ℕ) → slice_index l.enters r < length l.steps → cell_at l.square r k ≡ cell_at l.fn.square r k;
      rest : (r k : ℕ) → l.row ≤ r → cell_at l.square r k ≡ cell_at l.fn.square r k;
    }
