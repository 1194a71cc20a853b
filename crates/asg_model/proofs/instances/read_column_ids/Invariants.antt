use Rattle.asg_model.proofs.Common.{ℕ, ◌^◌, ◌<◌, get_or, Column}
use Rattle.asg_model.proofs.instances.read_column_ids.Given as goal

abbrev pub invariant-loop-column : goal.invariant-loop-column
invariant-loop-column l = (k : ℕ) → k < l.column-index → (d : Column) → (get_or l.columns k d).id < 2 ^ 32
