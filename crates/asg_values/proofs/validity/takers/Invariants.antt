use Rattle.asg_values.proofs.Common.{◌≡◌, ℕ, ◌<◌, take, slice_index, count_by, most_columns, takes}
use Rattle.asg_values.proofs.validity.takers.Given as goal

abbrev pub invariant-loop-row : goal.invariant-loop-row
invariant-loop-row l = (c : ℕ) → c < most_columns → slice_index l.taken c ≡ count_by (takes c) (take l.row l.choice)
