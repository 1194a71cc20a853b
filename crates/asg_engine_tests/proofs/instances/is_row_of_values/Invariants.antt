use Rattle.asg_engine_tests.proofs.Common.{ℕ, ◌<◌, HasValueAt, bounded_sums, narrow_top}
use Rattle.asg_engine_tests.proofs.instances.is_row_of_values.Given as goal

-- the cells so far are values
abbrev pub invariant-loop-column : goal.invariant-loop-column
invariant-loop-column l = (k : ℕ) → k < l.column → HasValueAt (bounded_sums narrow_top) l.square l.row k
