use Rattle.asg_pool.proofs.Common.{sym, ap, ◌∙◌, subst, arith, phases_of, last_phase, IsForest, phase_at}
use Rattle.asg_pool.proofs.LinkLemmas.{link_within}
use Rattle.asg_pool.proofs.ForestLemmas.{there_in, last_shown, forest_shown}
use Rattle.asg_pool.proofs.regions.Region.enters.Goals as goal

pub row-requires : goal.row-requires
row-requires g c =
    let s = c.self.inside in
    let there = there_in s.side s.links (phase_at s.steps s.enters s.leaves) c.args.self.now c.args.trail c.number.result c.self.view_is c.requires c.number.ensures in
    omega (arith, link_within s.links.slots c.number.result there, c.self.invariant.enters_rows.count)

pub returns-clause-value : goal.returns-clause-value
returns-clause-value g c =
    let s = c.self.inside in
    let phase = phase_at s.steps s.enters s.leaves in
    let there = there_in s.side s.links phase c.args.self.now c.args.trail c.number.result c.self.view_is c.requires c.number.ensures in
    c.row.ensures
    ∙ ap (λ p. p.enters) (sym (last_shown s.side s.links phase c.self.invariant.rooted c.number.result there))
    ∙ ap (λ F. (last_phase (phases_of F c.number.result)).enters) c.self.view_is
    ∙ ap (λ k. (last_phase (phases_of c.args.self.now k)).enters) c.number.ensures

pub returns-clause-forest : goal.returns-clause-forest
returns-clause-forest g c =
    let s = c.self.inside in
    subst IsForest c.self.view_is (forest_shown s.side s.links (phase_at s.steps s.enters s.leaves) c.self.invariant.rooted c.self.invariant.over)
