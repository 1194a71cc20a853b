use Rattle.asg_trees.proofs.Common.{◌≡◌, ◌+◌, ◌<◌, ◌≤◌, sym, subst, ⊎_elim, arith, cases_lt, IsGiven}
use Rattle.asg_trees.proofs.GroupLemmas.{IsNextAnswer, given_by}
use Rattle.asg_trees.proofs.conclusions.first_lacking.Goals as goal

pub loop-before-preserved : goal.loop-before-preserved
loop-before-preserved c a from upto =
    let before = c.loop-before.before in
    let number = c.first_of.result in
    ⊎_elim
    (λ (old : a < before + 1). c.loop-before.invariant a from (omega (arith, old)))
    (λ (new : before + 1 ≤ a).
    let same : before + 1 ≡ a = omega (arith, new, upto) in
    subst (IsGiven c.args.nodes.now) same
    (given_by c.args.nodes.now (before + 1) number (omega arith) c.if-first_of-eq0.false
    (subst (IsNextAnswer c.args.nodes.now (before + 1)) (sym c.first_of.ensures) (c.requires.firsts (before + 1) (omega (arith, c.loop-before-test.true))))))
    (cases_lt a (before + 1))
