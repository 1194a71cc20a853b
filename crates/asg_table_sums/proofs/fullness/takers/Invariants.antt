use Rattle.asg_table_sums.proofs.Common.{◌≡◌, ℕ, ◌<◌, take, slice_index, count_by, most_columns, takes}
use Rattle.asg_table_sums.proofs.fullness.takers.Given as goal

abbrev pub invariant-loop-row : goal.invariant-loop-row
invariant-loop-row l = (c : ℕ) → c < most_columns → slice_index l.taken c ≡ count_by (takes c) (take l.row l.choice)
