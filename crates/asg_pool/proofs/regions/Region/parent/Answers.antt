use Rattle.asg_pool.proofs.Common.{sym, ap, ◌∙◌, subst, parent_of, IsForest, phase_at}
use Rattle.asg_pool.proofs.PathLemmas.{parent_is}
use Rattle.asg_pool.proofs.ForestLemmas.{there_in, parent_shown, forest_shown}
use Rattle.asg_pool.proofs.regions.Region.parent.Goals as goal

pub link-requires : goal.link-requires
link-requires g c =
    let s = c.self.inside in
    there_in s.side s.links (phase_at s.steps s.enters s.leaves) c.args.self.now c.args.trail c.number.result c.self.view_is c.requires c.number.ensures

pub returns-clause-value : goal.returns-clause-value
returns-clause-value g c =
    let s = c.self.inside in
    c.trail_of.ensures
    ∙ sym (parent_is s.links.slots c.number.result c.link.result c.link.ensures)
    ∙ sym (parent_shown s.side s.links (phase_at s.steps s.enters s.leaves) c.number.result)
    ∙ ap (λ F. parent_of F c.number.result) c.self.view_is
    ∙ ap (parent_of c.args.self.now) c.number.ensures

pub returns-clause-forest : goal.returns-clause-forest
returns-clause-forest g c =
    let s = c.self.inside in
    subst IsForest c.self.view_is (forest_shown s.side s.links (phase_at s.steps s.enters s.leaves) c.self.invariant.rooted c.self.invariant.over)
