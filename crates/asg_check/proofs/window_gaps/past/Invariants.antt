use Rattle.asg_check.proofs.Common.{ℕ, ◌<◌, ◌≤◌, get_or, ℤ, ◌≤ℤ◌}
use Rattle.asg_check.proofs.window_gaps.past.Given as goal

abbrev pub invariant-loop-at : goal.invariant-loop-at
invariant-loop-at l = record {
  from : l.place ≤ l.at;
  before : (k : ℕ) (d : ℤ) → l.place ≤ k → k < l.at → get_or l.costs k d ≤ℤ l.span.last;
}
