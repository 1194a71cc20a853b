use Rattle.asg_check.proofs.Common.{ℕ, ◌<◌, get_or, ◌≤ℤ◌, Window}
use Rattle.asg_check.proofs.window_gaps.are_up.Given as goal

-- no window so far begins above a later one
abbrev pub invariant-loop-place : goal.invariant-loop-place
invariant-loop-place l = record {
  some : 0 < l.place;
  up : (i j : ℕ) (d : Window) → i < j → j < l.place → (get_or l.windows i d).lo ≤ℤ (get_or l.windows j d).lo;
}
