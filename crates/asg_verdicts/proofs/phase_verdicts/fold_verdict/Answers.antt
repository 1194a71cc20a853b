use Rattle.asg_verdicts.proofs.Common.{◌≡◌, ◌≢◌, ◌⊎◌, pos, sym, ap, ◌∙◌, subst, arith, bounded_sums, cost_reach, sum_entered, top_of, choice_fold, IsValue, lies_within, No, Yes}
use Rattle.asg_verdicts.proofs.phase_verdicts.fold_verdict.Goals as goal

pub chosen_fold-fold-requires-clause-near : goal.chosen_fold-fold-requires-clause-near
chosen_fold-fold-requires-clause-near c = lies_within cost_reach c.args.inst.now (omega arith) c.requires.instance

pub index_verdict-requires-clause-index : goal.index_verdict-requires-clause-index
index_verdict-requires-clause-index c =
    subst (λ n. IsValue (bounded_sums n.top) c.args.index) (sym c.monoid.ensures)
    (subst (λ t. IsValue (bounded_sums t) c.args.index) (sym c.of-kind.ensures.stops) c.requires.index)

pub index_verdict-requires-clause-value : goal.index_verdict-requires-clause-value
index_verdict-requires-clause-value c = subst (λ n. IsValue (bounded_sums n.top) c.chosen_fold-fold.result) (sym c.monoid.ensures) c.chosen_fold-fold.ensures.is_value

pub returns : goal.returns
returns c =
    let X = c.args.inst.now in
    let choice = c.args.choice.now in
    let index = c.args.index in
    let verdict = c.index_verdict.result in
    let own = c.of-kind.result in
    let fold_is = c.chosen_fold-fold.ensures.fold
    ∙ ap (λ t. choice_fold (bounded_sums t) (sum_entered own.objective) X choice) c.of-kind.ensures.stops
    ∙ ap (λ o. choice_fold (bounded_sums (top_of c.args.objective)) (sum_entered o) X choice) c.of-kind.ensures.objective in
    subst (λ z. ((index ≡ z) × (verdict ≡ Yes)) ⊎ ((index ≢ z) × (verdict ≡ No 7 (pos 0)))) fold_is c.index_verdict.ensures
