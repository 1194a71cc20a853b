use Rattle.asg_hall_windows.proofs.Common.{All, sym, subst, to_z-of_z, w128, IsStretch}
use Rattle.asg_model.proofs.Kit.{All-push}
use Rattle.asg_hall_windows.proofs.stretches.add_stretch.Goals as goal

pub returns-in_ok-push : goal.returns-in_ok-push
returns-in_ok-push c =
    let windows = c.args.windows.now in
    let P = IsStretch windows c.args.spread in
    subst (All P) (sym c.in_ok-push.ensures.items)
    (All-push P c.args.stretches.now.items c.args.stretch c.requires.before
    (subst (λ s. IsStretch windows s c.args.stretch) (to_z-of_z w128 c.args.spread c.ranges.spread) (c.is_stretch.ensures c.if-is_stretch.true)))
