use Rattle.asg_algebra.proofs.Common.{ℕ, ◌<◌, IsMatched}
use Rattle.asg_algebra.proofs.given.is_perfect.Given as goal

-- the rows so far have columns
abbrev pub invariant-rows : goal.invariant-rows
invariant-rows l = (r : ℕ) → r < l.row → IsMatched l.fn.matching r
