use Rattle.asg_table_phases.proofs.Common.{ℕ, ◌<◌, ◌≤◌, slice_index}
use Rattle.asg_table_phases.proofs.narrow_tops.are_within.Given as goal

-- the numbers so far are no greater
abbrev pub invariant-numbers : goal.invariant-numbers
invariant-numbers l = (k : ℕ) → k < l.place → slice_index l.numbers k ≤ l.most
