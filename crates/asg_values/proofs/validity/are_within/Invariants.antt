use Rattle.asg_values.proofs.Common.{ℕ, ◌<◌, ◌≤◌, count_by, capacity_at, takes}
use Rattle.asg_values.proofs.validity.are_within.Given as goal

abbrev pub invariant-loop-place : goal.invariant-loop-place
invariant-loop-place l = (c : ℕ) → c < l.place → count_by (takes c) l.choice ≤ capacity_at l.inst c
