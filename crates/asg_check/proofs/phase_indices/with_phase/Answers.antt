use Rattle.asg_check.proofs.Common.{◌≡◌, ◌∷◌, All, map, sym, ap, ◌∙◌, subst}
use Rattle.asg_check.proofs.KnownWords.{index-more}
use Rattle.asg_check.specs.KnownPhases.{HaveTheIndex}
use Rattle.asg_order.specs.Monoid.{IsValue}
use Rattle.asg_check.proofs.phase_indices.with_phase.Goals as goal

pub returns-clause-index : goal.returns-clause-index
returns-clause-index g c = λ rest have.
    let m = c.args.m.now in
    let M = g.M.Ordered.monoid_of m in
    let values = c.as_slice.result.now in
    let items = c.as_slice.ensures.value in
    let written : map (g.M.Written.word_of m) values ≡ c.args.phase.now.steps = ap (map (g.M.Written.word_of m)) items ∙ c.in_ok-read_steps.ensures.words c.if-not-branch.false ∙ c.steps.ensures in
    let are : All (IsValue M) values = subst (All (IsValue M)) (sym items) (c.in_ok-read_steps.ensures.values c.if-not-branch.false) in
    subst (λ z. HaveTheIndex M (g.M.Written.word_of m) z (c.args.phase.now ∷ rest)) (sym (c.op.ensures.product ∙ ap (λ s. M.product s c.args.index) c.fold-steps.ensures.product))
    (index-more M (g.M.Written.word_of m) (g.M.Written.value_of m) (g.met.M.Written.word_laws m) c.args.phase.now values c.args.index rest are written have)
