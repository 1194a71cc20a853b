use Rattle.asg_check.proofs.Common.{length, sym, ◌∙◌, arith, false≢true, IsOutOfOrderAt, none_at_all, none_more}
use Rattle.asg_check.proofs.RankedTold.{in_order_at, out_within}
use Rattle.asg_check.proofs.ranked_answers.first_out_of_order.Goals as goal

pub loop-place-preserved : goal.loop-place-preserved
loop-place-preserved c =
    let objective = c.args.objective in
    let answers = c.args.answers.now in
    none_more (IsOutOfOrderAt objective answers) c.loop-place.place c.loop-place.invariant
    (in_order_at objective answers c.loop-place.place c.index-answers-place.result c.index-answers-place-in-loop-place.result c.loop-place.auto.place c.loop-place-test.true c.index-answers-place.is c.index-answers-place-in-loop-place.is
    (λ better. false≢true (sym c.if-is_better.false ∙ c.is_better.ensures.1 better)))

pub returns : goal.returns
returns c =
    let objective = c.args.objective in
    let answers = c.args.answers.now in
    none_at_all (IsOutOfOrderAt objective answers) (length answers) (out_within objective answers) (λ m less. c.loop-place.invariant m (omega (arith, less, c.loop-place-test.false)))
