use Rattle.asg_check.proofs.Common.{◌≡◌, ◌≤◌, length, live_parts}
use Rattle.asg_check.proofs.window_gaps.live_costs.Given as goal

abbrev pub invariant-loop-row : goal.invariant-loop-row
invariant-loop-row l = record {
  end : l.row-end ≡ length l.inst.rows;
  within : l.row ≤ l.row-end;
  so_far : l.costs.items ≡ live_parts l.inst l.row;
}
