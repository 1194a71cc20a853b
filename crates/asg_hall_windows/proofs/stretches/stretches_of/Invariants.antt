use Rattle.asg_hall_windows.proofs.Common.{All, IsStretch}
use Rattle.asg_hall_windows.proofs.stretches.stretches_of.Given as goal

abbrev pub invariant-loop-place : goal.invariant-loop-place
invariant-loop-place l = All (IsStretch l.windows l.fn.spread) l.stretches.items
