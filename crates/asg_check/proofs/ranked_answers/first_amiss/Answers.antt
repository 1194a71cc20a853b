use Rattle.asg_check.proofs.Common.{length, arith, IsAmissAt, none_at_all, none_more}
use Rattle.asg_check.proofs.RankedTold.{amiss_at, amiss_within, spelled_more, well_at}
use Rattle.asg_check.proofs.ranked_answers.first_amiss.Goals as goal

pub returns-then-not-branch-clause-first : goal.returns-then-not-branch-clause-first
returns-then-not-branch-clause-first c = (
  c.loop-place-test.true,
  amiss_at c.args.inst.now c.args.answers.now c.loop-place.place c.index-answers-place.result c.index-answers-place.is c.loop-place-test.true c.args.objective (c.in_ok-has_its_value.ensures.wrong c.if-not-branch.true),
  c.loop-place.invariant.0,
)

pub loop-place-preserved : goal.loop-place-preserved
loop-place-preserved c =
    let X = c.args.inst.now in
    let answers = c.args.answers.now in
    let n = c.loop-place.place in
    let answer = c.index-answers-place.result in
    let at = c.index-answers-place.is in
    let within = c.loop-place-test.true in
    let its = c.in_ok-has_its_value.ensures.right c.if-not-branch.false in (
      none_more (IsAmissAt c.args.objective X answers) n c.loop-place.invariant.0 (well_at X answers n answer at within c.args.objective c.requires its),
      spelled_more X answers n answer at within c.loop-place.invariant.1 (its.0, its.1),
    )

pub returns-clause-first : goal.returns-clause-first
returns-clause-first c =
    let X = c.args.inst.now in
    let answers = c.args.answers.now in
    none_at_all (IsAmissAt c.args.objective X answers) (length answers) (amiss_within c.args.objective X answers) (λ m less. c.loop-place.invariant.0 m (omega (arith, less, c.loop-place-test.false)))
