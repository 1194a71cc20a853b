use Rattle.asg_table_phases.proofs.Common.{ℕ, ◌<◌, ◌≤◌, slice_index, narrow_top}
use Rattle.asg_table_phases.proofs.graded_tables.are_short.Given as goal

-- the numbers so far are short
abbrev pub invariant-numbers : goal.invariant-numbers
invariant-numbers l = (k : ℕ) → k < l.place → slice_index l.numbers k ≤ narrow_top
