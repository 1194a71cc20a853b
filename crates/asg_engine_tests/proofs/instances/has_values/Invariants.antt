use Rattle.asg_engine_tests.proofs.Common.{ℕ, ◌<◌, HasValueAt, bounded_sums, narrow_top}
use Rattle.asg_engine_tests.proofs.instances.has_values.Given as goal

-- the rows so far have values
abbrev pub invariant-loop-row : goal.invariant-loop-row
invariant-loop-row l = (r k : ℕ) → r < l.row → k < l.square.side → HasValueAt (bounded_sums narrow_top) l.square r k
