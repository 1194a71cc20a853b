use Rattle.asg_sum_edits.proofs.Common.{◌≡◌, ℕ, ◌+◌, ◌<◌, ◌≤◌, slice_index, slice_index_or, Some, absent, table_cost, Cost, sum_entered}
use Rattle.asg_sum_edits.proofs.row_tests.cells_are_above.Given as goal

-- the costs of the columns so far are at least the fall
abbrev pub invariant-columns : goal.invariant-columns
invariant-columns l =
    (c : ℕ) (cost : Cost) → c < l.column → table_cost l.parts.seconds.now c (slice_index_or l.parts.firsts.now c absent) ≡ Some cost
    → l.fall ≤ sum_entered l.objective cost + slice_index l.rises c
