use Rattle.asg_check.proofs.Common.{length, arith, IsNoChoiceAt, none_at_all, none_more}
use Rattle.asg_check.proofs.RankedTold.{spelled_at, unspelled_within}
use Rattle.asg_check.proofs.ranked_answers.first_unspelled.Goals as goal

pub loop-place-preserved : goal.loop-place-preserved
loop-place-preserved c =
    none_more (IsNoChoiceAt c.args.inst.now c.args.answers.now) c.loop-place.place c.loop-place.invariant
    (spelled_at c.args.inst.now c.args.answers.now c.loop-place.place c.index-answers-place.result c.index-answers-place.is c.loop-place-test.true (c.in_ok-spells.ensures.some c.if-not-branch.false))

pub returns : goal.returns
returns c =
    let X = c.args.inst.now in
    let answers = c.args.answers.now in
    none_at_all (IsNoChoiceAt X answers) (length answers) (unspelled_within X answers) (λ m less. c.loop-place.invariant m (omega (arith, less, c.loop-place-test.false)))
