use Rattle.asg_check.proofs.Common.{map, span_of}
use Rattle.asg_check.proofs.WindowGaps.{IsPassed}
use Rattle.asg_check.proofs.window_gaps.first_in_order.Given as goal

abbrev pub invariant-windows : goal.invariant-windows
invariant-windows l = IsPassed l.costs (map (span_of l.spread) l.windows) l.place l.window-index
