use Rattle.asg_objectives.proofs.Common.{◌≡◌, ℕ, sym, ◌∙◌, subst, arith, bounded_sums, cost_reach, time_entered, graded, choice_fold, lies_within}
use Rattle.asg_objectives.proofs.listed_grades.has_fold.Goals as goal

pub chosen_fold-fold-requires-clause-near : goal.chosen_fold-fold-requires-clause-near
chosen_fold-fold-requires-clause-near c = lies_within cost_reach c.args.inst.now (omega arith) c.rows-rows.ensures.instance

pub returns-clause-fold : goal.returns-clause-fold
returns-clause-fold c = λ yes.
    let fold : ℕ × ℕ = c.chosen_fold-fold.result in
    let index : ℕ × ℕ = c.args.index in
    let same : fold ≡ index = λ i. (c.are_same.ensures.grade yes i, c.are_same.ensures.amount yes i) in
    subst (λ n. choice_fold (graded (bounded_sums n)) time_entered c.args.inst.now c.args.choice.now ≡ index) c.new-kind.ensures (sym c.chosen_fold-fold.ensures.fold ∙ same)
