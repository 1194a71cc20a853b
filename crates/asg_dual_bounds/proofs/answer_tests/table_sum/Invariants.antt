use Rattle.asg_dual_bounds.proofs.Common.{◌≡◌, ◌*◌, ◌≤◌, table_number, sum_below}
use Rattle.asg_dual_bounds.proofs.answer_tests.table_sum.Given as goal

-- the sum so far
abbrev pub invariant-rows : goal.invariant-rows
invariant-rows l =
    record {
      sum : l.total ≡ sum_below (table_number l.table l.columns) l.row;
      bound : l.total ≤ l.row * 2147483648;
    }
