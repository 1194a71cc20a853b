use Rattle.asg_settling.proofs.Common.{◌≡◌, ℕ, ◌+◌, ◌≤◌, length, slice_index, IsPassed}
use Rattle.asg_settling.proofs.left_columns.find_left.Given as goal

-- the last columns so far
abbrev pub invariant-loop-ahead : goal.invariant-loop-ahead
invariant-loop-ahead l =
    record {
      count : length l.next ≡ length l.fn.next;
      passed : (k : ℕ) → length l.leaves ≤ k + l.ahead → k ≤ length l.leaves → IsPassed l.leaves l.end k (slice_index l.next k);
    }
