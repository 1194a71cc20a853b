use Rattle.asg_thresh.proofs.Common.{ℕ, ◌<◌, ◌≤◌, get_or, no_grade, grade_at}
use Rattle.asg_thresh.proofs.thresholds.next_grade.Given as goal

-- no grade of the rows so far lies between the limit and the least
abbrev pub invariant-loop-row : goal.invariant-loop-row
invariant-loop-row l =
    record {
      above : l.limit < l.least;
      upto : l.least ≤ no_grade;
      each : (k c : ℕ) → k < l.row-index → c < l.side → grade_at l.grades l.side (get_or l.rows k 0) c < l.least → grade_at l.grades l.side (get_or l.rows k 0) c ≤ l.limit;
    }
