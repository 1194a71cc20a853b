use Rattle.asg_dual_bounds.proofs.Common.{ℕ, ◌+◌, ◌<◌, ◌≤◌, ◌≢◌, slice_index, absent}
use Rattle.asg_dual_bounds.proofs.row_tests.are_above.Given as goal

-- the numbers so far are at least the fall
abbrev pub invariant-columns : goal.invariant-columns
invariant-columns l =
    (c : ℕ) → c < l.column → slice_index l.slots c ≢ absent → l.fall ≤ slice_index l.slots c + slice_index l.rises c
