use Rattle.asg_window.proofs.Common.{arith}
use Rattle.asg_window.proofs.gaps.lessen.Goals as goal

pub overflow_sub-ascent : goal.overflow_sub-ascent
overflow_sub-ascent c = c.bands.invariant.spread_fits

pub ascend-requires-clause-fits : goal.ascend-requires-clause-fits
ascend-requires-clause-fits c =
    let fits = c.bands.invariant.spread_fits in
    omega (arith, fits, c.if-ascent.true)

pub bands-smaller : goal.bands-smaller
bands-smaller c =
    let nearer = c.in_ok-ascend.ensures.nearer in
    let before = c.bands.invariant.low_fits in
    let after = c.in_ok-ascend.ensures.ascent.low_fits in
    omega (arith, nearer, before, after)
