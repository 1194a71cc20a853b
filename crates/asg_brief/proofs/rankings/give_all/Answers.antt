use Rattle.asg_brief.proofs.Common.{subst, Gives}
use Rattle.asg_brief.proofs.GivenBest.{done_of, gave_all, gave_more, gave_none}
use Rattle.asg_brief.proofs.rankings.give_all.Goals as goal

pub answers-init : goal.answers-init
answers-init g c = gave_none (g.K.Kind.objective c.args.ranker.now.kind) c.args.ranker.now c.requires.none

pub answers-preserved : goal.answers-preserved
answers-preserved g c =
    let first = c.args.ranker.now in
    let before = c.answers.ranker in
    let after = c.next.new.self in
    let objective = g.K.Kind.objective first.kind in
    let gives = subst (λ kind. Gives (g.K.Kind.objective kind) before.problem before.count before.given after.given c.next.result) c.answers.invariant.kind c.next.ensures.gives in
    gave_more objective first before after c.answers.given c.in-Answer.number c.answers.invariant
    (subst (Gives objective before.problem before.count before.given after.given) c.in-Answer.is gives) c.next.ensures.kind c.next.ensures.problem c.next.ensures.count

pub returns-clause-ranking : goal.returns-clause-ranking
returns-clause-ranking g c = λ some.
    let first = c.args.ranker.now in
    let before = c.answers.ranker in
    let after = c.next.new.self in
    let objective = g.K.Kind.objective first.kind in
    let gives = subst (λ kind. Gives (g.K.Kind.objective kind) before.problem before.count before.given after.given c.next.result) c.answers.invariant.kind c.next.ensures.gives in
    (gave_all objective first before after c.answers.given c.answers.invariant (done_of objective before.problem before.count before.given after.given c.next.result (λ number is. c.in_default.not-Answer number is) gives)).ranking some

pub returns-clause-nothing : goal.returns-clause-nothing
returns-clause-nothing g c = λ none.
    let first = c.args.ranker.now in
    let before = c.answers.ranker in
    let after = c.next.new.self in
    let objective = g.K.Kind.objective first.kind in
    let gives = subst (λ kind. Gives (g.K.Kind.objective kind) before.problem before.count before.given after.given c.next.result) c.answers.invariant.kind c.next.ensures.gives in
    (gave_all objective first before after c.answers.given c.answers.invariant (done_of objective before.problem before.count before.given after.given c.next.result (λ number is. c.in_default.not-Answer number is) gives)).nothing none c.requires.asked
