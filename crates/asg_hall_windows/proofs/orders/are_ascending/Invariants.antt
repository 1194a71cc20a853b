use Rattle.asg_hall_windows.proofs.Common.{ℕ, ◌<◌, get_or, ◌≤ℤ◌, Window}
use Rattle.asg_hall_windows.proofs.orders.are_ascending.Given as goal

-- no end of a window so far is above that of a later one
abbrev pub invariant-loop-place : goal.invariant-loop-place
invariant-loop-place l = record {
  some : 0 < l.place;
  up : (i j : ℕ) (d : Window) → i < j → j < l.place → ((get_or l.windows i d).lo ≤ℤ (get_or l.windows j d).lo) × ((get_or l.windows i d).hi ≤ℤ (get_or l.windows j d).hi);
}
