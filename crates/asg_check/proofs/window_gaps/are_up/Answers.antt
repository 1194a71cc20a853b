use Rattle.asg_check.proofs.Common.{◌-◌, get_or, ◌≤ℤ◌, sym, ◌∙◌, subst, arith, false≢true, get_or_read}
use Rattle.asg_check.proofs.WindowGaps.{le-not}
use Rattle.asg_check.proofs.WindowOrder.{windows_up_more}
use Rattle.asg_check.proofs.window_gaps.are_up.Goals as goal

pub loop-place-preserved : goal.loop-place-preserved
loop-place-preserved c =
    let windows = c.args.windows.now in
    let place = c.loop-place.place in
    let some = c.loop-place.invariant.some in
    let this = c.index-windows-place.result in
    let last = c.index-windows-place-in-loop-place.result in
    let ordered = le-not this.lo last.lo (λ low. false≢true (sym c.if-begins_below.false ∙ c.begins_below.ensures.1 low)) in
    record {
      some = omega arith;
      up = windows_up_more windows place c.loop-place-test.true some
          (λ d. subst (λ w. w.lo ≤ℤ (get_or windows place d).lo) (get_or_read windows (place - 1) last (omega (arith, some, c.loop-place-test.true)) c.index-windows-place-in-loop-place.is d)
          (subst (λ w. last.lo ≤ℤ w.lo) (get_or_read windows place this c.loop-place-test.true c.index-windows-place.is d) ordered))
          c.loop-place.invariant.up;
    }
