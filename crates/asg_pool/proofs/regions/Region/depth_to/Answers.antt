use Rattle.asg_pool.proofs.Common.{length, IfSome, sym, refl, ap, ◌∙◌, arith, phases_to, phase_at}
use Rattle.asg_pool.proofs.PathLemmas.{IsThere, way_within}
use Rattle.asg_pool.proofs.ForestLemmas.{way_there, depth_shown}
use Rattle.asg_pool.proofs.regions.Region.depth_to.Given as given
use Rattle.asg_pool.proofs.regions.Region.depth_to.Goals as goal

pub depth_to-requires : goal.depth_to-requires
depth_to-requires g c =
    let s = c.self.inside in
    way_there s.side s.links (phase_at s.steps s.enters s.leaves) c.args.self.now c.args.number c.args.number c.self.view_is c.requires refl

module _ (g : given.Over) (c : goal.After-depth_to g) where
  there : IfSome c.args.number (IsThere c.self.inside.links.slots)
  there =
      let s = c.self.inside in
      way_there s.side s.links (phase_at s.steps s.enters s.leaves) c.args.self.now c.args.number c.args.number c.self.view_is c.requires refl

pub returns-clause-value : goal.returns-clause-value
returns-clause-value g c =
    let s = c.self.inside in
    c.depth_to.ensures
    ∙ sym (depth_shown s.side s.links (phase_at s.steps s.enters s.leaves) c.self.invariant.rooted c.args.number (there g c))
    ∙ ap (λ F. length (phases_to F c.args.number)) c.self.view_is

pub returns-clause-most : goal.returns-clause-most
returns-clause-most g c =
    omega (arith, c.depth_to.ensures, way_within c.self.inside.links.slots c.self.invariant.rooted c.args.number (there g c), c.self.invariant.used, c.self.invariant.most)
