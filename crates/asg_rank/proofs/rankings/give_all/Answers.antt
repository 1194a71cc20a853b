use Rattle.asg_rank.proofs.Common.{subst, Gives}
use Rattle.asg_rank.proofs.GivenAll.{gave_more, gave_none}
use Rattle.asg_rank.proofs.rankings.give_all.Goals as goal

pub answers-init : goal.answers-init
answers-init g c = gave_none c.args.ranker.now c.requires

pub answers-preserved : goal.answers-preserved
answers-preserved g c =
    let before = c.answers.ranker in
    let after = c.next.new.self in
    let objective = g.K.Kind.objective before.kind in
    let gives = subst (Gives objective before.problem before.count before.given after.given) c.in-Answer.is c.next.ensures.gives in
    gave_more objective c.args.ranker.now before after c.answers.given c.in-Answer.number c.answers.invariant gives c.next.ensures.kind c.next.ensures.problem c.next.ensures.count
