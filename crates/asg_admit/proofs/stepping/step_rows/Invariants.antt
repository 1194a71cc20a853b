use Rattle.asg_admit.proofs.Common.{◌≡◌, ℕ, ◌<◌, ◌≤◌, KeepsLabels, entered_at, staying_at, stepped, cell_at}
use Rattle.asg_admit.proofs.stepping.step_rows.Given as goal

-- the rows so far are stepped, and the others stand
abbrev pub invariant-loop-row : goal.invariant-loop-row
invariant-loop-row g l =
    record {
      labels : KeepsLabels l.fn.square l.square;
      done : (r k : ℕ) → r < l.row → k < l.fn.square.side → cell_at l.square r k ≡ stepped (g.M.Ordered.monoid_of l.m) (g.M.DMonoid.difference l.m) (entered_at l.enters l.t) (staying_at l.leaves l.t) l.c (cell_at l.fn.square) r k;
      rest : (r k : ℕ) → l.row ≤ r → cell_at l.square r k ≡ cell_at l.fn.square r k;
    }
