use Rattle.asg_sum_ranks.proofs.Common.{◌<◌, sym, ap, ◌∙◌, subst, arith, AreAbove, Branch, branch_at, part_at, child_at}
use Rattle.asg_sum_ranks.proofs.Steps.{same_part}
use Rattle.asg_sum_ranks.proofs.tree_tests.is_above_part.Goals as goal

pub is_above_at-requires-clause-place : goal.is_above_at-requires-clause-place
is_above_at-requires-clause-place c =
    let same = c.parent.ensures ∙ ap (λ (branch : Branch). branch.parent) c.at-branch.ensures in
    let before : (branch_at c.args.branches.now c.args.place).parent < c.args.place = c.requires.child.before in
    omega arith

pub is_above_at-requires-clause-above : goal.is_above_at-requires-clause-above
is_above_at-requires-clause-above c =
    let branches = c.args.branches.now in
    let same = c.parent.ensures ∙ ap (λ (branch : Branch). branch.parent) c.at-branch.ensures in
    subst (λ p. AreAbove c.args.ground.now.objective c.args.ground.now.inst.now (part_at branches p) (branch_at branches p).duals) (sym same) (c.requires.before.sound (branch_at branches c.args.place).parent c.requires.child.before).above

pub returns : goal.returns
returns c = λ true_one.
    let objective = c.args.ground.now.objective in
    let X = c.args.ground.now.inst.now in
    let branches = c.args.branches.now in
    let own = branch_at branches c.args.place in
    let same_parent = c.parent.ensures ∙ ap (λ (branch : Branch). branch.parent) c.at-branch.ensures in
    let same_row = c.row.ensures ∙ ap (λ (branch : Branch). branch.row) c.at-branch.ensures in
    let same_duals = c.amounts.ensures ∙ ap (λ (branch : Branch). branch.duals) c.at-branch.ensures in
    let at_parent = subst (λ p. AreAbove objective X (child_at branches p c.row.result) c.amounts.result.now) same_parent (c.is_above_at.ensures true_one) in
    let at_row = subst (λ r. AreAbove objective X (child_at branches own.parent r) c.amounts.result.now) same_row at_parent in
    let at_duals = subst (λ d. AreAbove objective X (child_at branches own.parent own.row) d) same_duals at_row in
    subst (λ part. AreAbove objective X part own.duals) (same_part X branches c.args.place c.requires.child) at_duals
