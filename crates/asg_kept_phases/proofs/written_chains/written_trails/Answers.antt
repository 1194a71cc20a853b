use Rattle.asg_kept_phases.proofs.Common.{◌≡◌, ◌+◌, [], ◌∷◌, ◌++◌, map, get_or, take, All, sym, ap, ◌∙◌, subst, arith, All-push, get_or-map, get_or_default, length-map, map-append, take_more, phases_along, IsValue, phases_of, last_phase, ArePhases, IsPhase, worded}
use Rattle.asg_kept_phases.proofs.written_chains.written_trails.Goals as goal

pub written_phase-requires-clause-values : goal.written_phase-requires-clause-values
written_phase-requires-clause-values g c =
    let M = g.M.Ordered.monoid_of c.args.m.now in
    let F = c.args.region.now in
    let trails = c.args.trails.now in
    let l = c.loop-i in
    let last = last_phase (phases_of F c.index-trails-i.result) in
    let size = length-map trails (λ t. last_phase (phases_of F t)) in
    let at : get_or (phases_along F trails) l.i last ≡ last =
    get_or-map (λ t. last_phase (phases_of F t)) trails l.i 0 last c.loop-i-test.true ∙ ap (λ t. last_phase (phases_of F t)) (get_or_default trails l.i 0 _ c.loop-i-test.true ∙ sym c.index-trails-i.is) in
    subst (λ phase. All (IsValue M) phase.steps) at (c.requires.values l.i last (omega (arith, size, c.loop-i-test.true)))

pub loop-i-preserved : goal.loop-i-preserved
loop-i-preserved g c =
    let F = c.args.region.now in
    let trails = c.args.trails.now in
    let l = c.loop-i in
    let t = c.index-trails-i.result in
    let word_of = g.M.Written.word_of c.args.m.now in
    let more : take (l.i + 1) trails ≡ take l.i trails ++ t ∷ [] =
    take_more trails l.i 0 c.loop-i-test.true ∙ ap (λ s. take l.i trails ++ s ∷ []) (get_or_default trails l.i 0 _ c.loop-i-test.true ∙ sym c.index-trails-i.is) in
    let words : map (worded word_of) (phases_along F (take (l.i + 1) trails)) ≡ map (worded word_of) (phases_along F (take l.i trails)) ++ worded word_of (last_phase (phases_of F t)) ∷ [] =
    ap (λ list. map (worded word_of) (phases_along F list)) more
    ∙ ap (map (worded word_of)) (map-append (λ s. last_phase (phases_of F s)) (take l.i trails) (t ∷ []))
    ∙ map-append (worded word_of) (phases_along F (take l.i trails)) (last_phase (phases_of F t) ∷ []) in
    let pushed = c.in_ok-push.ensures.items in (
      pushed ∙ (λ j. l.invariant.0 j ++ c.in_ok-phase.ensures.words j ∷ []) ∙ sym words,
      subst ArePhases (sym pushed) (All-push IsPhase l.words.items c.in_ok-phase.phase l.invariant.1 c.in_ok-phase.ensures.phase),
    )
