-- The phase of the next trail is the next phase.
use Rattle.asg_kept_phases.proofs.Common.{◌≡◌, get_or, slice_index, All, sym, refl, ap, ◌∙◌, subst, arith, get_or-map, get_or_default, length-map, AllowsSteps, RefusesStep, settled, phases_along, IsValue, phases_of, last_phase}
use Rattle.asg_kept_phases.proofs.CellLemmas.{IsThrough-next, IsThrough-end}
use Rattle.asg_kept_phases.proofs.kept_cells.kept_cell.Goals as goal

pub through-requires-clause-values : goal.through-requires-clause-values
through-requires-clause-values g c =
    let F = c.args.region.now in
    let trails = c.args.trails.now in
    let last = last_phase (phases_of F c.index-trails-i.result) in
    let size = length-map trails (λ t. last_phase (phases_of F t)) in
    let at : get_or (phases_along F trails) c.loop-i.i last ≡ last =
    get_or-map (λ t. last_phase (phases_of F t)) trails c.loop-i.i 0 last c.loop-i-test.true ∙ ap (λ t. last_phase (phases_of F t)) (get_or_default trails c.loop-i.i 0 _ c.loop-i-test.true ∙ sym c.index-trails-i.is) in
    subst (λ phase. All (IsValue (g.M.Ordered.monoid_of c.args.m.now)) phase.steps) at
    (c.requires.values c.loop-i.i last (omega (arith, size, c.loop-i-test.true)))

pub returns-in-None : goal.returns-in-None
returns-in-None g c =
    let m = c.args.m.now in
    let M = g.M.Ordered.monoid_of m in
    let d = g.M.DMonoid.difference m in
    let F = c.args.region.now in
    let trails = c.args.trails.now in
    let last = last_phase (phases_of F c.index-trails-i.result) in
    let size = length-map trails (λ t. last_phase (phases_of F t)) in
    let at : get_or (phases_along F trails) c.loop-i.i last ≡ last =
    get_or-map (λ t. last_phase (phases_of F t)) trails c.loop-i.i 0 last c.loop-i-test.true ∙ ap (λ t. last_phase (phases_of F t)) (get_or_default trails c.loop-i.i 0 _ c.loop-i-test.true ∙ sym c.index-trails-i.is) in
    record {
      count =
          IsThrough-end M d c.args.r c.args.k (phases_along F trails) last c.args.x c.loop-i.i c.loop-i.now (omega (arith, size, c.loop-i-test.true)) c.loop-i.invariant
          (subst (λ phase. RefusesStep M d phase.steps (slice_index phase.enters c.args.r) (slice_index phase.leaves c.args.k) c.loop-i.now) (sym at) (c.in-None.ensures.refused refl));
      cell_is = sym c.loop-i.invariant.cell;
    }

pub loop-i-preserved : goal.loop-i-preserved
loop-i-preserved g c =
    let m = c.args.m.now in
    let M = g.M.Ordered.monoid_of m in
    let d = g.M.DMonoid.difference m in
    let F = c.args.region.now in
    let trails = c.args.trails.now in
    let last = last_phase (phases_of F c.index-trails-i.result) in
    let size = length-map trails (λ t. last_phase (phases_of F t)) in
    let at : get_or (phases_along F trails) c.loop-i.i last ≡ last =
    get_or-map (λ t. last_phase (phases_of F t)) trails c.loop-i.i 0 last c.loop-i-test.true ∙ ap (λ t. last_phase (phases_of F t)) (get_or_default trails c.loop-i.i 0 _ c.loop-i-test.true ∙ sym c.index-trails-i.is) in
    IsThrough-next M d c.args.r c.args.k (phases_along F trails) last c.args.x c.loop-i.i c.loop-i.now (omega (arith, size, c.loop-i-test.true)) c.loop-i.invariant
    c.in-Some.y
    (subst (λ phase. AllowsSteps M d phase.steps (slice_index phase.enters c.args.r) (slice_index phase.leaves c.args.k) c.loop-i.now) (sym at) (c.in-Some.ensures.allowed refl))
    (subst (λ phase. c.in-Some.y ≡ settled M d phase.steps (slice_index phase.enters c.args.r) (slice_index phase.leaves c.args.k) c.loop-i.now) (sym at) c.in-Some.ensures.settled)
    c.in-Some.ensures.is_value
