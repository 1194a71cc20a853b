use Rattle.asg_values.proofs.Common.{◌≡◌, ◌*◌, ◌≤◌, take, unsigned_abs, most_cost, second_parts, costs_at, total}
use Rattle.asg_values.proofs.sums.total_b_at.Given as goal

abbrev pub invariant-loop-cost : goal.invariant-loop-cost
invariant-loop-cost l =
    (l.sum ≡ total (second_parts (costs_at l.a (take l.cost-index l.costs)))) × (unsigned_abs l.sum ≤ most_cost * l.cost-index)
