use Rattle.asg_check.proofs.Common.{length, arith, IsNoHallAt, none_at_all, none_more}
use Rattle.asg_check.proofs.WindowTold.{hall_at, no_hall_within}
use Rattle.asg_check.proofs.window_verdicts.first_no_hall.Goals as goal

pub loop-place-preserved : goal.loop-place-preserved
loop-place-preserved c =
    let X = c.args.inst.now in
    let windows = c.args.windows.now in
    none_more (IsNoHallAt X windows) c.loop-place.place c.loop-place.invariant
    (hall_at X windows c.loop-place.place c.index-windows-place.result c.index-windows-place.is (c.is_hall_window.ensures.0 c.if-not-is_hall_window.false) c.loop-place-test.true)

pub returns : goal.returns
returns c =
    let X = c.args.inst.now in
    let windows = c.args.windows.now in
    none_at_all (IsNoHallAt X windows) (length windows) (no_hall_within X windows) (λ m less. c.loop-place.invariant m (omega (arith, less, c.loop-place-test.false)))
