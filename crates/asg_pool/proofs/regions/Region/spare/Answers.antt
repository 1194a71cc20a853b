use Rattle.asg_pool.proofs.Common.{subst, IsForest, phase_at}
use Rattle.asg_pool.proofs.ForestLemmas.{forest_shown}
use Rattle.asg_pool.proofs.regions.Region.spare.Goals as goal

pub returns-clause-forest : goal.returns-clause-forest
returns-clause-forest g c =
    let s = c.self.inside in
    subst IsForest c.self.view_is (forest_shown s.side s.links (phase_at s.steps s.enters s.leaves) c.self.invariant.rooted c.self.invariant.over)
