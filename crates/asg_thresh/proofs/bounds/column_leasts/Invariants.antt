use Rattle.asg_thresh.proofs.Common.{◌≡◌, ℕ, ◌<◌, ◌≤◌, length, get_or, grade_at}
use Rattle.asg_thresh.proofs.bounds.column_leasts.Given as goal

-- no grade of the rows so far is less
abbrev pub invariant-loop-row : goal.invariant-loop-row
invariant-loop-row l =
    record {
      count : length l.leasts.items ≡ l.side;
      least : (r c : ℕ) → r < l.row → c < l.side → get_or l.leasts.items c 0 ≤ grade_at l.grades l.side r c;
    }
