use Rattle.asg_settling.proofs.Common.{◌≡◌, ℕ, ◌-◌, ◌<◌, ◌≤◌, ◌≢◌, length, slice_index, option_map, KeepsLabels, settled, cell_at}
use Rattle.asg_settling.proofs.settling.settle_waiting_row.Given as goal

-- the cells so far are settled, and the others stand
abbrev pub invariant-loop-column : goal.invariant-loop-column
invariant-loop-column g l =
    record {
      labels : KeepsLabels l.fn.square l.square;
      within : l.column ≤ l.fn.square.side;
      done : (k : ℕ) → k < l.column → cell_at l.square l.row k ≡ option_map (settled (g.M.Ordered.monoid_of l.m) (g.M.DMonoid.difference l.m) l.steps (length l.steps) (slice_index l.leaves k)) (cell_at l.fn.square l.row k);
      rest : (k : ℕ) → l.column ≤ k → cell_at l.square l.row k ≡ cell_at l.fn.square l.row k;
      others : (r k : ℕ) → r ≢ l.row → cell_at l.square r k ≡ cell_at l.fn.square r k;
    }

abbrev pub decreases-loop-column : goal.decreases-loop-column
decreases-loop-column g l = l.fn.square.side - l.column
