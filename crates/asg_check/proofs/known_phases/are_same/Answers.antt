use Rattle.asg_check.proofs.Common.{◌≡◌, ◌<◌, ◌≤◌, get_or, get_or_default, sym, ◌∙◌, subst, arith, ⊎_elim, cases_lt}
use Rattle.std.proofs.lemmas.List.{same_lists}
use Rattle.asg_check.proofs.known_phases.are_same.Goals as goal

pub phases-preserved : goal.phases-preserved
phases-preserved c = λ k d below.
    let words = c.args.phases.now in
    let others = c.args.others.now in
    let i = c.phases.place in
    ⊎_elim
    (λ (less : k < i). c.phases.invariant k d less)
    (λ (last : i ≤ k).
    let same : i ≡ k = omega (arith, last, below) in
    let one : get_or words i d ≡ get_or others i d =
    get_or_default words i d _ c.phases-test.true ∙ sym c.index-phases-place.is ∙ c.is_same_phase.ensures c.if-not-is_same_phase.false ∙ c.index-others-place.is
    ∙ sym (get_or_default others i d _ (omega (arith, c.phases-test.true, c.if-phases-others.false))) in
    subst (λ n. get_or words n d ≡ get_or others n d) same one)
    (cases_lt k i)

pub returns : goal.returns
returns c = λ _.
    same_lists c.args.phases.now c.args.others.now (omega (arith, c.if-phases-others.false))
    (λ k d h. c.phases.invariant k d (omega (arith, h, c.phases-test.false)))
