use Rattle.asg_model.proofs.Common.{ℕ, ◌^◌, ◌<◌, get_or, Row}
use Rattle.asg_model.proofs.instances.read_row_ids.Given as goal

abbrev pub invariant-loop-row : goal.invariant-loop-row
invariant-loop-row l = (k : ℕ) → k < l.row-index → (d : Row) → (get_or l.rows k d).id < 2 ^ 32
