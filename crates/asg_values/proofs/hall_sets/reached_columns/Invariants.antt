use Rattle.asg_values.proofs.Common.{◌≡◌, ℕ, ◌<◌, false, length, get_or, take, is_reached}
use Rattle.asg_values.proofs.hall_sets.reached_columns.Given as goal

abbrev pub invariant-loop-id : goal.invariant-loop-id
invariant-loop-id l = (c : ℕ) → c < length l.inst.columns → get_or l.reached c false ≡ is_reached l.inst l.band (take l.id-index l.ids) c
