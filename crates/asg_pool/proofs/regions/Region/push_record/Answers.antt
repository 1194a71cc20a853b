use Rattle.asg_pool.proofs.Common.{◌≡◌, ◌+◌, length, IfSome, Some, sym, refl, ap, ◌∙◌, arith, option_map, trail_at, phases_to, grown_on, path, depth_at, phase_at, PhaseOf, phase_of, IsPhaseOver}
use Rattle.asg_pool.proofs.PathLemmas.{IsThere}
use Rattle.asg_pool.proofs.ForestLemmas.{way_there, trail_shown, depth_shown}
use Rattle.asg_pool.proofs.ChangeLemmas.{Changes-at}
use Rattle.asg_pool.proofs.PushLemmas.{IsRegion-pushed, trails_after}
use Rattle.asg_pool.proofs.regions.Region.push_record.Given as given
use Rattle.asg_pool.proofs.regions.Region.push_record.Goals as goal

module _ (g : given.Over) (c : goal.After-put-3 g) where
  parent_there : IfSome c.args.parent (IsThere c.self.inside.links.slots)
  parent_there =
      let s = c.self.inside in
      way_there s.side s.links (phase_at s.steps s.enters s.leaves) c.args.self.now c.args.parent c.args.parent c.self.view_is c.requires.parent refl

  deep : c.depth_to-depth.result + 1 ≡ depth_at c.self.inside.links.slots c.args.parent + 1
  deep =
      let s = c.self.inside in
      let phase = phase_at s.steps s.enters s.leaves in
      let shown = depth_shown s.side s.links phase c.self.invariant.rooted c.args.parent parent_there in
      ap (λ n. n + 1)
      (c.depth_to-depth.ensures.value ∙ sym (ap (λ F. length (phases_to F c.args.parent)) c.self.view_is) ∙ shown)

  abbrev new : PhaseOf g.row.V.Denot
  new = phase_of c.args.steps.now c.args.enters.now c.args.leaves.now

pub invariant_of-self : goal.invariant_of-self
invariant_of-self g c =
    let s = c.self.inside in
    let n = c.insert-number in
    let side = ap (λ F. F.side) c.self.view_is in
    let over : IsPhaseOver s.side (new g c) = record {
      some = c.requires.some_steps;
      few = omega (arith, side, c.requires.few_steps);
      enters = c.requires.enters ∙ sym side;
      leaves = c.requires.leaves ∙ sym side;
    } in
    IsRegion-pushed s.side s.links n.new.self n.result c.args.parent (c.depth_to-depth.result + 1) n.ensures.place n.ensures.free n.ensures.slots
    (parent_there g c) (deep g c) s.steps c.put.new.self s.enters c.put-2.new.self s.leaves c.put-3.new.self (new g c) c.self.invariant
    c.put.ensures c.put-2.ensures c.put-3.ensures n.ensures.room n.ensures.used over

pub returns-clause-new : goal.returns-clause-new
returns-clause-new g c =
    let s = c.self.inside in
    let phase = phase_at s.steps s.enters s.leaves in
    let k = c.insert-number.result in
    sym (ap (λ F. trail_at F k) c.self.view_is)
    ∙ trail_shown s.side s.links phase k
    ∙ ap (option_map (λ link. record { parent = link.parent; phases = path s.links.slots phase link.depth (Some k) })) c.insert-number.ensures.free

pub returns-clause-trails : goal.returns-clause-trails
returns-clause-trails g c =
    let s = c.self.inside in
    let n = c.insert-number in
    let P = c.args.parent in
    let changes =
    trails_after s.side s.links n.new.self n.result P (c.depth_to-depth.result + 1) n.ensures.place n.ensures.free n.ensures.slots
    (parent_there g c) (deep g c) s.steps c.put.new.self s.enters c.put-2.new.self s.leaves c.put-3.new.self (new g c) c.self.invariant
    c.put.ensures c.put-2.ensures c.put-3.ensures in
    let branch = ap (λ F. Some (grown_on F P (new g c))) c.self.view_is in
    Changes-at changes c.self.view_is refl branch
