use Rattle.asg_pool.proofs.Common.{refl, phase_at}
use Rattle.asg_pool.proofs.ForestLemmas.{there_in}
use Rattle.asg_pool.proofs.ChangeLemmas.{Changes-at}
use Rattle.asg_pool.proofs.ReleaseLemmas.{leaf_in, IsRegion-released, trails_released}
use Rattle.asg_pool.proofs.regions.Region.release.Goals as goal

pub remove-requires : goal.remove-requires
remove-requires g c =
    let s = c.self.inside in
    there_in s.side s.links (phase_at s.steps s.enters s.leaves) c.args.self.now c.args.trail c.number.result c.self.view_is c.requires.live c.number.ensures

pub invariant_of-self : goal.invariant_of-self
invariant_of-self g c =
    let s = c.self.inside in
    let phase = phase_at s.steps s.enters s.leaves in
    let there = there_in s.side s.links phase c.args.self.now c.args.trail c.number.result c.self.view_is c.requires.live c.number.ensures in
    let leaf = leaf_in s.side s.links phase c.args.self.now c.args.trail c.number.result c.self.view_is c.requires.leaf c.number.ensures in
    IsRegion-released s.links c.remove.new.self c.number.result there leaf c.remove.ensures.slots s.side s.steps s.enters s.leaves c.self.invariant.rooted c.remove.ensures.room c.self.invariant

pub returns-clause-trails : goal.returns-clause-trails
returns-clause-trails g c =
    let s = c.self.inside in
    let phase = phase_at s.steps s.enters s.leaves in
    let there = there_in s.side s.links phase c.args.self.now c.args.trail c.number.result c.self.view_is c.requires.live c.number.ensures in
    let leaf = leaf_in s.side s.links phase c.args.self.now c.args.trail c.number.result c.self.view_is c.requires.leaf c.number.ensures in
    let changes = trails_released s.links c.remove.new.self c.number.result there leaf c.remove.ensures.slots s.side s.steps s.enters s.leaves c.self.invariant.rooted in
    Changes-at changes c.self.view_is c.number.ensures refl
