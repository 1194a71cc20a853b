use Rattle.asg_window.proofs.Common.{◌≡◌, ℕ, ◌<◌, ◌≤◌, length, get_or}
use Rattle.asg_window.proofs.empty_lines.all_rows.Given as goal

-- the rows so far
abbrev pub invariant-loop-row : goal.invariant-loop-row
invariant-loop-row l =
    record {
      upto : l.row ≤ l.band.marks.side;
      count : length l.rows.items ≡ l.row;
      each : (k : ℕ) → k < l.row → get_or l.rows.items k 0 ≡ k;
    }
