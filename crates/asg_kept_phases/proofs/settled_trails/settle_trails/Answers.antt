use Rattle.asg_kept_phases.proofs.Common.{◌≡◌, get_or, sym, refl, ap, ◌∙◌, subst, arith, get_or-map, get_or_default, length-map, IsPhaseTo, phases_along, phases_of, last_phase, IsAdmittedPhase, cell_at}
use Rattle.asg_kept_phases.proofs.LeadLemmas.{LeadsTo-none, LeadsTo-next, next_admitted}
use Rattle.asg_kept_phases.proofs.settled_trails.settle_trails.Goals as goal

pub loop-i-init : goal.loop-i-init
loop-i-init g c =
    let m = c.args.m.now in
    (LeadsTo-none (g.M.Ordered.monoid_of m) (g.met.M.Ordered.laws m) (g.M.DMonoid.difference m) c.args.reduced.now c.requires.reduced, refl)

pub settle_trail-requires-clause-admitted : goal.settle_trail-requires-clause-admitted
settle_trail-requires-clause-admitted g c =
    let m = c.args.m.now in
    let M = g.M.Ordered.monoid_of m in
    let F = c.args.region.now in
    let trails = c.args.trails.now in
    let l = c.loop-i in
    let last = last_phase (phases_of F c.index-trails-i.result) in
    let size = length-map trails (λ t. last_phase (phases_of F t)) in
    let at : get_or (phases_along F trails) l.i last ≡ last =
    get_or-map (λ t. last_phase (phases_of F t)) trails l.i 0 last c.loop-i-test.true ∙ ap (λ t. last_phase (phases_of F t)) (get_or_default trails l.i 0 _ c.loop-i-test.true ∙ sym c.index-trails-i.is) in
    subst (λ phase. IsAdmittedPhase M (g.M.DMonoid.difference m) l.reduced.now.side phase (cell_at l.reduced.now)) at
    (next_admitted M (g.met.M.Ordered.laws m) (g.M.DMonoid.difference m) (phases_along F trails) last c.args.reduced.now l.reduced l.i (omega (arith, size, c.loop-i-test.true)) c.requires.admitted c.requires.reduced l.invariant.0)

pub loop-i-preserved : goal.loop-i-preserved
loop-i-preserved g c =
    let m = c.args.m.now in
    let M = g.M.Ordered.monoid_of m in
    let F = c.args.region.now in
    let trails = c.args.trails.now in
    let l = c.loop-i in
    let last = last_phase (phases_of F c.index-trails-i.result) in
    let size = length-map trails (λ t. last_phase (phases_of F t)) in
    let at : get_or (phases_along F trails) l.i last ≡ last =
    get_or-map (λ t. last_phase (phases_of F t)) trails l.i 0 last c.loop-i-test.true ∙ ap (λ t. last_phase (phases_of F t)) (get_or_default trails l.i 0 _ c.loop-i-test.true ∙ sym c.index-trails-i.is) in (
      LeadsTo-next M (g.met.M.Ordered.laws m) (g.M.DMonoid.difference m) (phases_along F trails) last c.args.reduced.now l.reduced l.i (omega (arith, size, c.loop-i-test.true)) c.requires.admitted c.requires.reduced l.invariant.0
          c.settle_trail.new.reduced
          (subst (λ phase. IsPhaseTo M (g.M.DMonoid.difference m) phase l.reduced c.settle_trail.new.reduced) (sym at) c.settle_trail.ensures.phase),
      c.settle_trail.ensures.room ∙ l.invariant.1,
    )
