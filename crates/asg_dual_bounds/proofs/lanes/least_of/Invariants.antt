use Rattle.asg_dual_bounds.proofs.Common.{ℕ, ◌+◌, ◌<◌, ◌≤◌, slice_index}
use Rattle.asg_dual_bounds.proofs.lanes.least_of.Given as goal

-- the least so far is at most each of the sums so far
abbrev pub invariant-columns : goal.invariant-columns
invariant-columns l =
    (c : ℕ) → c < l.column → l.least ≤ slice_index l.slots c + slice_index l.low c
