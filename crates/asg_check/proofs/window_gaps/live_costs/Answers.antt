use Rattle.asg_check.proofs.Common.{arith}
use Rattle.asg_check.proofs.WindowGaps.{rows_more}
use Rattle.asg_check.proofs.window_gaps.live_costs.Goals as goal

pub loop-row-preserved : goal.loop-row-preserved
loop-row-preserved c = record {
  end = c.loop-row.invariant.end;
  within = omega (arith, c.loop-row-test.true);
  so_far = rows_more c.args.inst.now c.loop-row.costs.items c.loop-row.row c.push_row.new.costs.items c.loop-row.invariant.so_far c.in_ok-push_row.ensures;
}
