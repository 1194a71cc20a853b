use Rattle.asg_sum_ranks.proofs.Common.{sym, ap, ◌∙◌, subst, AreAbove, IsAnswer, Branch, columns_of, part_at}
use Rattle.asg_sum_ranks.proofs.Steps.{empty, first_branches}
use Rattle.asg_sum_ranks.proofs.tree_tests.is_root.Goals as goal

pub returns : goal.returns
returns c = λ true_one.
    let objective = c.args.ground.now.objective in
    let X = c.args.ground.now.inst.now in
    let branches = c.args.branches.now in
    let root = c.at-root.ensures in
    first_branches objective X branches (sym (c.row.ensures ∙ ap (λ (branch : Branch). branch.row) root) ∙ c.if-row-ne0.false)
    (sym (c.banned-banned.ensures ∙ ap (λ (branch : Branch). branch.banned) root) ∙ empty c.banned-banned.result.now c.if-banned-ne0.false)
    (subst (IsAnswer objective X) (c.columns-columns.ensures ∙ ap columns_of root) (c.has_answer.ensures c.if-not-has_answer.false)) (c.is_in_part.ensures c.if-not-is_in_part.false)
    (subst (AreAbove objective X (part_at branches 0)) (ap (λ (branch : Branch). branch.duals) root) (c.is_above_whole.ensures true_one (part_at branches 0)))
