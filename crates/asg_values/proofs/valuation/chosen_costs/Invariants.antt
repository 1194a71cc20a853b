use Rattle.asg_values.proofs.Common.{◌≡◌, ◌≤◌, length, All, filter_map, range_with_len, IsCostInRange, chosen_cost}
use Rattle.asg_values.proofs.valuation.chosen_costs.Given as goal

abbrev pub invariant-loop-row : goal.invariant-loop-row
invariant-loop-row l =
    (l.costs.items ≡ filter_map (chosen_cost l.inst l.choice) (range_with_len 0 l.row))
    × (length l.costs.items ≤ l.row)
    × All IsCostInRange l.costs.items
