use Rattle.asg_model.proofs.Common.{◌≡◌, ℕ, ◌<◌, get_or, cost_at, absent, table_cost}
use Rattle.asg_model.proofs.instances.Instance.read_row.Given as goal

abbrev pub invariant-loop-col : goal.invariant-loop-col
invariant-loop-col l = (c : ℕ) → c < l.col → cost_at l.self.cells l.row c ≡ table_cost l.room.seconds c (get_or l.room.firsts c absent)
