use Rattle.asg_thresh.proofs.Common.{ℕ, ◌<◌, ◌≤◌, get_or}
use Rattle.asg_thresh.proofs.thresholds.least_above.Given as goal

-- no grade so far lies between the limit and the least
abbrev pub invariant-loop-grade : goal.invariant-loop-grade
invariant-loop-grade l =
    record {
      above : l.limit < l.least;
      upto : l.least ≤ l.fn.least;
      each : (k : ℕ) → k < l.grade-index → get_or l.grades k 0 < l.least → get_or l.grades k 0 ≤ l.limit;
    }
