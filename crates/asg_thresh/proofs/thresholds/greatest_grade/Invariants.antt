use Rattle.asg_thresh.proofs.Common.{ℕ, ◌<◌, ◌≤◌, get_or, grade_at, IsAssignmentUpTo}
use Rattle.asg_thresh.proofs.thresholds.greatest_grade.Given as goal

-- the grades so far are no greater, and no limit of the assignment is less
abbrev pub invariant-loop-row : goal.invariant-loop-row
invariant-loop-row l =
    record {
      upto : (r : ℕ) → r < l.row → grade_at l.grades l.side r (get_or l.perm r 0) ≤ l.greatest;
      least : (limit : ℕ) → IsAssignmentUpTo l.grades l.side limit l.perm → l.greatest ≤ limit;
    }
