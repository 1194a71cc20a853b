use Rattle.asg_verdicts.proofs.Common.{refl, arith, IfOk-weaker, square_side, bounded_sums, bounded_difference, bounded_value, plain_word, cost_reach, sum_entered, top_of, bounded_laws, bounded_word_laws, choice_fold, lies_within, square_cell}
use Rattle.asg_verdicts.proofs.PhaseTold.{index_value, told_have, told_sums}
use Rattle.asg_verdicts.proofs.phase_verdicts.summed_verdict.Goals as goal

pub fold_verdict-requires-clause-index : goal.fold_verdict-requires-clause-index
fold_verdict-requires-clause-index c =
    let X = c.args.inst.now in
    let top = top_of c.args.objective in
    let enter = sum_entered c.args.objective in
    index_value (bounded_sums top) (bounded_laws top) bounded_difference plain_word (square_side X) (square_cell X 0 enter) (choice_fold (bounded_sums top) enter X c.args.choice.now) c.args.phases.now c.in-Some.index
    (rw c.in-Some.is at c.in_ok-index.ensures)

pub returns-in-Some : goal.returns-in-Some
returns-in-Some c =
    let X = c.args.inst.now in
    let top = top_of c.args.objective in
    let enter = sum_entered c.args.objective in
    let verdict = c.fold_verdict.result in
    told_sums X c.args.choice.now c.args.phases.now verdict c.args.objective c.args.objective top c.requires.sums refl refl
    (told_have (bounded_sums top) (bounded_laws top) bounded_difference plain_word (square_side X) (square_cell X 0 enter) (choice_fold (bounded_sums top) enter X c.args.choice.now) c.args.phases.now c.in-Some.index
    (rw c.in-Some.is at c.in_ok-index.ensures) (bounded_value top) (bounded_word_laws top) verdict c.fold_verdict.ensures)

pub replayed_verdict-requires-clause-near : goal.replayed_verdict-requires-clause-near
replayed_verdict-requires-clause-near c = lies_within cost_reach c.args.inst.now (omega arith) c.requires.instance

pub returns-in-None : goal.returns-in-None
returns-in-None c =
    let own = c.of.result in
    IfOk-weaker c.replayed_verdict.result _ _
    (λ verdict told.
    told_sums c.args.inst.now c.args.choice.now c.args.phases.now verdict c.args.objective own.objective own.monoid.top own.is_sum c.of.ensures.objective c.of.ensures.stops told)
    c.replayed_verdict.ensures
