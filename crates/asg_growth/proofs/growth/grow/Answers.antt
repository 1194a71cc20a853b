use Rattle.asg_growth.proofs.Common.{length, arith}
use Rattle.asg_model.specs.laws.Listing.{length-le_from_below}
use Rattle.asg_growth.proofs.growth.grow.Given.{Over}
use Rattle.asg_growth.proofs.growth.grow.Goals as goal

-- a tree has at most as many rows as the side, so the rounds don't run out
ends_before : (g : Over) (c : goal.After-loop-place g) → ⊥
ends_before g c =
    let b = c.loop-place.growth in
    let s = c.loop-place.invariant.search in
    let tree = s.underway.searching.growing.tree in
    absurd (omega (arith, length-le_from_below b.tree.rows.items (length c.args.matching.now) tree.apart tree.below, c.loop-place.invariant.rows, b.tree.rows.ok.0, s.underway.searching.growing.matching_side, c.loop-place-test.false, c.side-place-end.ensures.side))

pub returns-clause-search : goal.returns-clause-search
returns-clause-search g c = absurd (ends_before g c)

pub returns-clause-stuck : goal.returns-clause-stuck
returns-clause-stuck g c = absurd (ends_before g c)
