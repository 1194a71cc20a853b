use Rattle.asg_values.proofs.Common.{◌≡◌, ◌≤◌, take, unsigned_abs, fold, int_max, most_cost, first_parts}
use Rattle.asg_values.proofs.extremes.greatest.Given as goal

abbrev pub invariant-loop-cost : goal.invariant-loop-cost
invariant-loop-cost l =
    (l.top ≡ fold int_max l.initial.top (first_parts (take l.cost-index l.costs))) × (unsigned_abs l.top ≤ most_cost)
