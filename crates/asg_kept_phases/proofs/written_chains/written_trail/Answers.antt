use Rattle.asg_kept_phases.proofs.Common.{◌≡◌, map, length, All, sym, ap, ◌∙◌, subst, arith, length-map, AreOfValues, words_over, phases_along, IsLive, phases_to, phases_over, worded}
use Rattle.asg_proof.specs.PromisedProofs.{IsPhaseOver}
use Rattle.asg_kept_phases.proofs.written_chains.written_trail.Goals as goal

pub written_trails-requires-clause-live : goal.written_trails-requires-clause-live
written_trails-requires-clause-live g c =
    subst (All (IsLive c.args.region.now)) (sym c.as_slice.ensures.value) c.in_ok-way.ensures.live

pub written_trails-requires-clause-values : goal.written_trails-requires-clause-values
written_trails-requires-clause-values g c =
    subst (AreOfValues (g.M.Ordered.monoid_of c.args.m.now)) (sym (ap (phases_along c.args.region.now) c.as_slice.ensures.value ∙ c.in_ok-way.ensures.along)) c.requires.values

pub returns-clause-words : goal.returns-clause-words
returns-clause-words g c =
    let F = c.args.region.now in
    let along : phases_along F c.as_slice.result.now ≡ phases_to F c.args.last = ap (phases_along F) c.as_slice.ensures.value ∙ c.in_ok-way.ensures.along in
    c.in_ok-phases.ensures ∙ c.in_ok-words.ensures.words ∙ ap (map (worded (g.M.Written.word_of c.args.m.now))) along

pub returns-clause-over : goal.returns-clause-over
returns-clause-over g c =
    let F = c.args.region.now in
    subst (All (IsPhaseOver F.side)) (sym (returns-clause-words g c))
    (words_over (g.M.Written.word_of c.args.m.now) F.side (phases_to F c.args.last) (phases_over F c.spare-spare.ensures.forest c.args.last c.requires.live))

pub returns-clause-fits : goal.returns-clause-fits
returns-clause-fits g c =
    let phases = phases_to c.args.region.now c.args.last in
    let same : length c.in_ok-phases.phases ≡ length (map (worded (g.M.Written.word_of c.args.m.now)) phases) = ap length (returns-clause-words g c) in
    omega (arith, same, length-map phases (worded (g.M.Written.word_of c.args.m.now)), c.phase_count-count.ensures)
