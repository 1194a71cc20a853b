use Rattle.asg_levels.proofs.Common.{◌≡◌, List, [], ◌∷◌, length, get_or, sym, ap, ◌∙◌, arith, eqb-true}
use Rattle.asg_order.specs.declared.words.Word.{Word}
use Rattle.asg_levels.proofs.unit_phases.is_unit_step.Goals as goal

-- the word of a step by 1
abbrev one : Word
one = record { grade = 0; amount = 1 }

same_word : (w : Word) → w.grade ≡ 0 → w.amount ≡ 1 → w ≡ one
same_word w g a = ap (λ n. record { grade = n; amount = w.amount }) g ∙ ap (λ n. record { grade = 0; amount = n }) a

-- a list of one word
one_alone : (xs : List Word) (w : Word) → length xs ≡ 1 → w ≡ get_or xs 0 one → w.grade ≡ 0 → w.amount ≡ 1 → xs ≡ one ∷ []
one_alone [] w long is g a = absurd (omega (arith, long))
one_alone (x ∷ []) w long is g a = ap (λ y. y ∷ []) (sym is ∙ same_word w g a)
one_alone (x ∷ y ∷ rest) w long is g a = absurd (omega (arith, long))

pub returns-then-step-eq0 : goal.returns-then-step-eq0
returns-then-step-eq0 c is =
    let steps = c.args.phase.now.steps in
    let same = c.steps-steps.ensures in
    let long : length steps ≡ 1 = sym (ap length same) ∙ sym c.len.ensures ∙ c.if-len-ne1.false in
    one_alone steps c.get-step.result long (c.get-step.ensures one ∙ ap (λ xs. get_or xs 0 one) same) c.if-step-eq0.true (eqb-true c.get-step.result.amount 1 is)
