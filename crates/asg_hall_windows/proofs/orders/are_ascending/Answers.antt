use Rattle.asg_hall_windows.proofs.Common.{◌-◌, get_or, subst, arith, get_or_read}
use Rattle.asg_hall_windows.proofs.StretchLemmas.{Below, ascending_more}
use Rattle.asg_hall_windows.proofs.orders.are_ascending.Goals as goal

pub loop-place-preserved : goal.loop-place-preserved
loop-place-preserved c =
    let windows = c.args.windows.now in
    let place = c.loop-place.place in
    let some = c.loop-place.invariant.some in
    let this = c.index-windows-place.result in
    let last = c.index-windows-place-in-loop-place.result in
    let both : Below last this = c.follows.ensures.0 c.if-not-follows.false in
    record {
      some = omega arith;
      up = ascending_more windows place c.loop-place-test.true some
          (λ d. subst (λ w. Below w (get_or windows place d)) (get_or_read windows (place - 1) last (omega (arith, some, c.loop-place-test.true)) c.index-windows-place-in-loop-place.is d)
          (subst (λ w. Below last w) (get_or_read windows place this c.loop-place-test.true c.index-windows-place.is d) both))
          c.loop-place.invariant.up;
    }
