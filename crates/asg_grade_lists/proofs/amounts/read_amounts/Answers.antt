use Rattle.asg_grade_lists.proofs.Common.{[], ◌∷◌, ◌++◌, take, sym, ap, ◌∙◌, subst, arith, take_all, take_more, AreAmountsAt}
use Rattle.asg_grade_lists.proofs.AmountLemmas.{amounts_more, amounts_none}
use Rattle.asg_grade_lists.proofs.amounts.read_amounts.Goals as goal

pub steps-init : goal.steps-init
steps-init c = amounts_none c.args.grade c.clear.new.self.items c.clear.ensures.items

pub steps-preserved : goal.steps-preserved
steps-preserved c =
    let g = c.args.grade in
    let words = c.steps-words.result in
    let t = c.steps.t in
    let word = c.get-word.result in
    let yes = c.if-not-is_amount.false in
    let one = take_more words t word (omega (arith, c.steps-test.true, c.len-t-end.ensures)) ∙ ap (λ w. take t words ++ w ∷ []) (sym (c.get-word.ensures word)) in
    subst (λ ws. AreAmountsAt g ws c.push.new.self.items) (sym one)
    (subst (λ xs. AreAmountsAt g (take t words ++ word ∷ []) xs) (sym c.in_ok-push.ensures.items)
    (amounts_more g (take t words) c.steps.amounts.items word c.steps.invariant (c.is_amount.ensures.grade yes) (c.is_amount.ensures.some yes)))

pub returns : goal.returns
returns c = λ _.
    let words = c.steps-words.result in
    subst (λ ws. AreAmountsAt c.args.grade ws c.steps.amounts.items) (take_all c.steps.t words (omega (arith, c.steps-test.false, c.len-t-end.ensures)) ∙ c.steps-words.ensures) c.steps.invariant
