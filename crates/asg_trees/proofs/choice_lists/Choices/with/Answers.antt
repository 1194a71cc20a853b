use Rattle.asg_trees.proofs.Common.{◌+◌, ◌^◌, ◌<◌, [], ◌∷◌, ◌++◌, length, All, sym, ap, ◌∙◌, subst, arith, IsValid, AreNumbersOf, choices_in}
use Rattle.asg_trees.proofs.ChoiceLemmas.{numbers_with, with_one}
use Rattle.asg_trees.proofs.choice_lists.Choices.with.Goals as goal

pub invariant_of-result : goal.invariant_of-result
invariant_of-result c =
    let s = c.self.inside in
    let X = c.args.inst.now in
    let more = c.in_ok-numbers.numbers in
    let all = subst (All (IsValid X)) (sym c.self.view_is) c.requires.all in
    let few : length more.items < 2 ^ 63 = omega (arith, more.ok.0, more.ok.1, more.small) in
    subst (λ n. AreNumbersOf n (s.count + 1) more.items) (sym c.len.ensures)
    (numbers_with X c.rows.ensures.instance c.args.choice.now c.requires.valid s.rows s.numbers.items more.items c.in_ok-numbers.ensures s.count c.self.invariant all few)

pub returns : goal.returns
returns c =
    let s = c.self.inside in
    let X = c.args.inst.now in
    let more = c.in_ok-numbers.numbers in
    let all = subst (All (IsValid X)) (sym c.self.view_is) c.requires.all in
    ap (λ n. choices_in n (s.count + 1) more.items) c.len.ensures
    ∙ with_one X c.rows.ensures.instance c.args.choice.now c.requires.valid s.rows s.numbers.items more.items c.in_ok-numbers.ensures s.count c.self.invariant all
    ∙ ap (λ fs. fs ++ c.args.choice.now ∷ []) c.self.view_is
