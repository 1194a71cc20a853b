use Rattle.asg_dual_bounds.proofs.Common.{ℕ, ◌+◌, ◌<◌, ◌≤◌, ◌≢◌, slice_index, Contains, absent}
use Rattle.asg_dual_bounds.proofs.own_rows.is_row_above_but.Given as goal

-- the columns so far are the own one, banned, or at least the fall
abbrev pub invariant-columns : goal.invariant-columns
invariant-columns l =
    (c : ℕ) → c < l.column → c ≢ l.own → ¬ Contains l.banned c → slice_index l.slots c ≢ absent → l.fall ≤ slice_index l.slots c + slice_index l.rises c
