use Rattle.asg_table_sums.proofs.Common.{ℕ, ◌<◌, pos, ◌-ℤ◌, ◌≤ℤ◌, slice_index_or, absent, rise_at}
use Rattle.asg_table_sums.proofs.level_rows.are_below.Given as goal

-- the columns so far are at least the level
abbrev pub invariant-columns : goal.invariant-columns
invariant-columns l = (c : ℕ) → c < l.column → l.level ≤ℤ (pos (rise_at l.rises c) -ℤ slice_index_or l.costs c absent)
