use Rattle.asg_hall_windows.proofs.Common.{◌+◌, ◌-◌, All, IsStretch}
use Rattle.asg_hall_windows.proofs.stretches.add_held.Given as goal

abbrev pub invariant-windows : goal.invariant-windows
invariant-windows l = All (IsStretch l.windows l.fn.spread) l.stretches.items

abbrev pub decreases-windows : goal.decreases-windows
decreases-windows l = l.place + 1 - l.from
