use Rattle.asg_admit.proofs.Common.{◌≡◌, ℕ, ◌<◌, ◌≤◌, ◌≢◌, option_map, KeepsLabels, staying_at, moved, cell_at}
use Rattle.asg_admit.proofs.stepping.step_row.Given as goal

-- the cells so far are stepped, and the others stand
abbrev pub invariant-loop-column : goal.invariant-loop-column
invariant-loop-column g l =
    record {
      labels : KeepsLabels l.fn.square l.square;
      done : (k : ℕ) → k < l.column → cell_at l.square l.row k ≡ option_map (moved (g.M.Ordered.monoid_of l.m) (g.M.DMonoid.difference l.m) l.entered (staying_at l.leaves l.t k) l.c) (cell_at l.fn.square l.row k);
      rest : (k : ℕ) → l.column ≤ k → cell_at l.square l.row k ≡ cell_at l.fn.square l.row k;
      others : (r k : ℕ) → r ≢ l.row → cell_at l.square r k ≡ cell_at l.fn.square r k;
    }
