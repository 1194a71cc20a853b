use Rattle.asg_hall_windows.proofs.Common.{◌-◌, get_or, subst, arith, get_or_read, to_z-of_z, w128, IsHeldBy}
use Rattle.asg_hall_windows.proofs.StretchLemmas.{no_others}
use Rattle.asg_hall_windows.proofs.stretches.is_stretch.Goals as goal

pub returns : goal.returns
returns c held_all =
    let windows = c.args.windows.now in
    let stretch = c.args.stretch.now in
    let last = c.index-windows-to.result in
    let spread = to_z-of_z w128 c.args.spread c.ranges.spread in
    let held = subst (λ s. IsHeldBy s stretch last) spread (c.is_held_by.ensures c.if-not-is_held_by.false) in
    record {
      some = omega arith;
      within = omega arith;
      held = λ d. subst (λ w. IsHeldBy c.args.spread stretch w) (get_or_read windows (stretch.to - 1) last (omega arith) c.index-windows-to.is d) held;
      alone = no_others windows stretch c.requires.ascending (omega arith) (omega arith) (c.begins_after.ensures c.if-not-begins_after.false) (c.ends_before.ensures held_all);
      words = c.requires.words;
    }
