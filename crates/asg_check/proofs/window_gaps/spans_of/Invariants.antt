use Rattle.asg_check.proofs.Common.{◌≡◌, map, take, span_of}
use Rattle.asg_check.proofs.window_gaps.spans_of.Given as goal

abbrev pub invariant-windows : goal.invariant-windows
invariant-windows l = l.spans.items ≡ map (span_of l.spread) (take l.window-index l.windows)
