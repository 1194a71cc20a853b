use Rattle.asg_trees.proofs.Common.{◌≡◌, ◌+◌, ◌<◌, ◌≤◌, sym, ◌∙◌, subst, ⊎_elim, arith, cases_lt, child_count}
use Rattle.asg_trees.proofs.own_answers.has_branches.Goals as goal

pub loop-before-preserved : goal.loop-before-preserved
loop-before-preserved c i from upto =
    let before = c.loop-before.before in
    ⊎_elim
    (λ (old : i < before + 1). c.loop-before.invariant i from (omega (arith, old)))
    (λ (new : before + 1 ≤ i).
    let same : before + 1 ≡ i = omega (arith, new, upto) in
    subst (λ j. child_count c.args.nodes.now c.args.n j ≡ 1) same (sym c.count_branch.ensures ∙ c.if-count_branch-ne1.false))
    (cases_lt i (before + 1))
