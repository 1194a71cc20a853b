use Rattle.asg_sum_edits.proofs.Common.{ℕ, ◌+◌, ◌<◌, ◌≤◌, IsTrue, slice_index, slice_index_or, absent, first_entered}
use Rattle.asg_sum_edits.proofs.row_tests.firsts_are_above.Given as goal

-- the columns so far are at least the fall
abbrev pub invariant-columns : goal.invariant-columns
invariant-columns l =
    IsTrue l.are_above → (c : ℕ) → c < l.column → l.fall ≤ first_entered l.objective (slice_index_or l.firsts c absent) + slice_index l.rises c
