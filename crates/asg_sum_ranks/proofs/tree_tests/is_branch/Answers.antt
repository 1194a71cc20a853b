use Rattle.asg_sum_ranks.proofs.Common.{ap, ◌∙◌, subst, IsAnswer, columns_of}
use Rattle.asg_sum_ranks.proofs.Steps.{next_branches}
use Rattle.asg_sum_ranks.proofs.tree_tests.is_branch.Goals as goal

pub returns : goal.returns
returns c = λ true_one.
    let objective = c.args.ground.now.objective in
    let X = c.args.ground.now.inst.now in
    next_branches objective X c.args.branches.now c.args.place c.requires.before c.requires.from (c.is_child.ensures c.if-not-is_child.false)
    (subst (IsAnswer objective X) (c.columns-columns.ensures ∙ ap columns_of c.at-branch.ensures) (c.has_answer.ensures c.if-not-has_answer.false)) (c.is_in_part.ensures c.if-not-is_in_part.false) (c.is_above_part.ensures true_one)
