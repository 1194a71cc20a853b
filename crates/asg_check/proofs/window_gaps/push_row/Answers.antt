use Rattle.asg_check.proofs.Common.{arith}
use Rattle.asg_check.proofs.WindowGaps.{row_more}
use Rattle.asg_check.proofs.window_gaps.push_row.Goals as goal

pub loop-column-preserved : goal.loop-column-preserved
loop-column-preserved c = record {
  end = c.loop-column.invariant.end;
  within = omega (arith, c.loop-column-test.true);
  so_far = row_more c.args.inst.now c.args.costs.now.items c.loop-column.costs.items c.args.row c.loop-column.column c.push_live.new.costs.items c.loop-column.invariant.so_far c.in_ok-push_live.ensures;
}
