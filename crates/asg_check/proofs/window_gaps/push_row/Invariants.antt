use Rattle.asg_check.proofs.Common.{◌≡◌, ◌≤◌, ◌++◌, length, row_parts}
use Rattle.asg_check.proofs.window_gaps.push_row.Given as goal

abbrev pub invariant-loop-column : goal.invariant-loop-column
invariant-loop-column l = record {
  end : l.column-end ≡ length l.inst.columns;
  within : l.column ≤ l.column-end;
  so_far : l.costs.items ≡ l.fn.costs.items ++ row_parts l.inst l.row l.column;
}
