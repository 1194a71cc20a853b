use Rattle.asg_verdicts.proofs.Common.{◌^◌, refl, arith, IfOk-weaker, square_side, bounded_sums, bounded_difference, cost_reach, time_entered, TimeCost, choice_fold, lies_within, square_cell}
use Rattle.asg_monoids.specs.Grades.{graded, graded_difference, graded_value, graded_word}
use Rattle.asg_monoids.specs.laws.Graded.{graded_laws, graded_word_laws}
use Rattle.asg_monoids.specs.laws.Bounded.{bounded_laws}
use Rattle.asg_verdicts.proofs.PhaseTold.{index_value, told_have, told_times}
use Rattle.asg_verdicts.proofs.phase_verdicts.timed_verdict.Goals as goal

pub timed_fold_verdict-requires-clause-index : goal.timed_fold_verdict-requires-clause-index
timed_fold_verdict-requires-clause-index c =
    let X = c.args.inst.now in
    let times = graded (bounded_sums (2 ^ 120)) in
    index_value times (graded_laws (bounded_sums (2 ^ 120)) (bounded_laws (2 ^ 120))) (graded_difference (bounded_sums (2 ^ 120)) bounded_difference) graded_word (square_side X) (square_cell X (0, 0) time_entered)
    (choice_fold times time_entered X c.args.choice.now) c.args.phases.now c.in-Some.index
    (rw c.in-Some.is at c.in_ok-index.ensures)

pub returns-in-Some : goal.returns-in-Some
returns-in-Some c =
    let X = c.args.inst.now in
    let times = graded (bounded_sums (2 ^ 120)) in
    let verdict = c.timed_fold_verdict.result in
    told_times X c.args.choice.now c.args.phases.now verdict TimeCost (2 ^ 120) refl refl
    (told_have times (graded_laws (bounded_sums (2 ^ 120)) (bounded_laws (2 ^ 120))) (graded_difference (bounded_sums (2 ^ 120)) bounded_difference) graded_word (square_side X) (square_cell X (0, 0) time_entered)
    (choice_fold times time_entered X c.args.choice.now) c.args.phases.now c.in-Some.index
    (rw c.in-Some.is at c.in_ok-index.ensures) (graded_value (2 ^ 120)) (graded_word_laws (2 ^ 120)) verdict c.timed_fold_verdict.ensures)

pub replayed_verdict-requires-clause-near : goal.replayed_verdict-requires-clause-near
replayed_verdict-requires-clause-near c = lies_within cost_reach c.args.inst.now (omega arith) c.requires.instance

pub returns-in-None : goal.returns-in-None
returns-in-None c =
    IfOk-weaker c.replayed_verdict.result _ _
    (λ verdict told.
    told_times c.args.inst.now c.args.choice.now c.args.phases.now verdict TimeCost c.new.result.monoid.inner.top refl c.new.ensures told)
    c.replayed_verdict.ensures
