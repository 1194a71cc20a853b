use Rattle.asg_networks.proofs.Common.{Fits-lt-pow}
use Rattle.asg_networks.proofs.FirstTwice.{all_seen, one_more_seen}
use Rattle.asg_networks.proofs.links.first_unlike.Goals as goal

pub loop-at-preserved : goal.loop-at-preserved
loop-at-preserved c =
    let told = c.earlier_of-first.ensures in
    one_more_seen c.args.links.now c.args.places.now c.loop-at.first c.earlier_of-first.result c.loop-at.at c.loop-at.auto.at c.loop-at-test.true c.loop-at.invariant told.upto told.below told.either told.other_fits

pub returns : goal.returns
returns c = all_seen c.args.links.now c.args.places.now c.requires (λ k. Fits-lt-pow (c.type_inv.places k)) c.loop-at.at c.loop-at.first c.loop-at-test.false c.loop-at.invariant
