use Rattle.asg_values.proofs.Common.{◌≡◌, ◌≤◌, take, unsigned_abs, fold, int_min, most_cost, first_parts}
use Rattle.asg_values.proofs.extremes.least.Given as goal

abbrev pub invariant-loop-cost : goal.invariant-loop-cost
invariant-loop-cost l =
    (l.low ≡ fold int_min l.initial.low (first_parts (take l.cost-index l.costs))) × (unsigned_abs l.low ≤ most_cost)
