use Rattle.asg_values.proofs.Common.{◌≡◌, ◌*◌, ◌≤◌, take, unsigned_abs, most_cost, first_parts, total}
use Rattle.asg_values.proofs.sums.total_a.Given as goal

abbrev pub invariant-loop-cost : goal.invariant-loop-cost
invariant-loop-cost l =
    (l.sum ≡ total (first_parts (take l.cost-index l.costs))) × (unsigned_abs l.sum ≤ most_cost * l.cost-index)
