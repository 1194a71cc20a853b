use Rattle.asg_hall_windows.proofs.Common.{All, subst, to_z-of_z, w128, IsStretch}
use Rattle.asg_hall_windows.proofs.stretches.add_held.Goals as goal

pub returns-then-windows-from : goal.returns-then-windows-from
returns-then-windows-from c =
    subst (λ s. All (IsStretch c.args.windows.now s) c.add_stretch.new.stretches.items) (to_z-of_z w128 c.args.spread c.ranges.spread) c.in_ok-add_stretch.ensures
