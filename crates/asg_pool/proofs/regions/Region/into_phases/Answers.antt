use Rattle.asg_pool.proofs.Common.{◌≡◌, sym, ap, ◌∙◌, arith, IfOk-weaker, phases_to, path, depth_at, phase_at}
use Rattle.asg_pool.proofs.ForestLemmas.{way_there, way_shown}
use Rattle.asg_pool.proofs.regions.Region.into_phases.Goals as goal

pub phases_to-requires-clause-rows : goal.phases_to-requires-clause-rows
phases_to-requires-clause-rows g c =
    let i = c.self.invariant in
    record {
      steps_there = let count = i.steps_rows.count in omega (arith, count);
      enters_there = let count = i.enters_rows.count in omega (arith, count);
      leaves_there = let count = i.leaves_rows.count in omega (arith, count);
    }

pub phases_to-requires-clause-there : goal.phases_to-requires-clause-there
phases_to-requires-clause-there g c =
    let s = c.self.inside in
    way_there s.side s.links (phase_at s.steps s.enters s.leaves) c.args.self c.args.last c.number_of.result c.self.view_is c.requires c.number_of.ensures

pub returns : goal.returns
returns g c =
    let s = c.self.inside in
    let n = c.number_of.result in
    let slots = s.links.slots in
    let phase = phase_at s.steps s.enters s.leaves in
    let there = way_there s.side s.links phase c.args.self c.args.last n c.self.view_is c.requires c.number_of.ensures in
    let list : path slots phase (depth_at slots n) n ≡ phases_to c.args.self c.args.last =
    sym (way_shown s.side s.links phase n there)
    ∙ ap (λ F. phases_to F n) c.self.view_is
    ∙ ap (phases_to c.args.self) c.number_of.ensures in
    IfOk-weaker c.phases_to.result (λ phases. phases.items ≡ path slots phase (depth_at slots n) n) (λ phases. phases.items ≡ phases_to c.args.self c.args.last)
    (λ phases is. is ∙ list)
    c.phases_to.ensures
