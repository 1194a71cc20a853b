use Rattle.asg_thresh.proofs.Common.{ℕ, ◌<◌, ◌≤◌, get_or}
use Rattle.asg_thresh.proofs.bounds.least_of.Given as goal

-- no grade so far is less
abbrev pub invariant-loop-grade : goal.invariant-loop-grade
invariant-loop-grade l = (k : ℕ) → k < l.grade-index → l.least ≤ get_or l.grades k 0
