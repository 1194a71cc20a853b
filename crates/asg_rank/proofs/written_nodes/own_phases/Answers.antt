use Rattle.asg_rank.proofs.Common.{◌≡◌, [], ◌∷◌, ◌++◌, sym, ap, ◌∙◌, subst, AreOfValues, phases_of, phases_to, last_phase, worded, AreOwn}
use Rattle.asg_rank.proofs.OwnPhases.{last_values, own_one}
use Rattle.asg_rank.proofs.written_nodes.own_phases.Goals as goal

pub written_phase-requires-clause-values : goal.written_phase-requires-clause-values
written_phase-requires-clause-values g c =
    let M = g.M.Ordered.monoid_of c.args.m.now in
    let F = c.args.region.now in
    last_values M (phases_of F c.in-Some.own) (subst (AreOfValues M) (ap (phases_to F) c.in-Some.ensures.0) c.requires.values)

pub returns : goal.returns
returns g c =
    let F = c.args.region.now in
    let word_of = g.M.Written.word_of c.args.m.now in
    let list : c.in_ok-listed.listed ≡ worded word_of (last_phase (phases_of F c.in-Some.own)) ∷ [] =
    c.in_ok-listed.ensures ∙ c.in_ok-push.ensures.items ∙ (λ i. c.new-phases.ensures.items i ++ c.in_ok-written_phase.ensures.words i ∷ []) in
    subst (AreOwn word_of F c.args.before c.args.trail) (sym list) (own_one F c.args.before c.args.trail c.requires.next word_of c.spare-spare.ensures.forest c.in-Some.own c.in-Some.ensures)
