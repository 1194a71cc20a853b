use Rattle.asg_thresh.proofs.Common.{◌≡◌, ℕ, ◌<◌, length, get_or}
use Rattle.asg_thresh.proofs.bounds.all_rows.Given as goal

-- the rows so far
abbrev pub invariant-loop-row : goal.invariant-loop-row
invariant-loop-row l =
    record {
      count : length l.rows.items ≡ l.row;
      each : (k : ℕ) → k < l.row → get_or l.rows.items k 0 ≡ k;
    }
