use Rattle.asg_table_phases.proofs.Common.{ℕ, ◌<◌, ◌≤◌, length, slice_index}
use Rattle.asg_table_phases.proofs.column_tops.top_between.Given as goal

-- none of the numbers so far is greater
abbrev pub invariant-numbers : goal.invariant-numbers
invariant-numbers l = (k : ℕ) → l.fn.from ≤ k → k < l.place → k < length l.numbers → slice_index l.numbers k ≤ l.top
