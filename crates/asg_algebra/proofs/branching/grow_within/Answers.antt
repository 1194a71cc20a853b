use Rattle.asg_algebra.proofs.Common.{length, arith, length-le_from_below}
use Rattle.asg_algebra.proofs.branching.grow_within.Goals as goal

-- a tree has at most as many rows as the side, so the rounds don't run out
pub returns-clause-probes : goal.returns-clause-probes
returns-clause-probes g c =
    let b = c.loop-place.growth in
    let s = c.loop-place.invariant.search in
    let tree = s.underway.searching.growing.tree in
    absurd (omega (arith, length-le_from_below b.tree.rows.items (length c.args.matching.now) tree.apart tree.below, c.loop-place.invariant.rows, b.tree.rows.ok.0, s.underway.searching.growing.matching_side, c.loop-place-test.false, c.side-place-end.ensures.side))
