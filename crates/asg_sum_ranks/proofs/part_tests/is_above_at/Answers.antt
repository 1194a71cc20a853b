use Rattle.asg_sum_ranks.proofs.Common.{ap, ◌∙◌, part_of, duals_of, Branch, columns_of}
use Rattle.asg_sum_ranks.proofs.Steps.{above_child}
use Rattle.asg_sum_ranks.proofs.part_tests.is_above_at.Goals as goal

pub returns : goal.returns
returns c = λ true_one.
    let objective = c.args.ground.now.objective in
    let X = c.args.ground.now.inst.now in
    let p = c.part_at-part.result in
    let b = c.duals-before.result in
    let a = c.lend-after.result in
    above_child objective X c.args.branches.now c.args.place c.args.row (part_of p.columns.now p.row p.banned.now) c.columns-answer.result.now (duals_of b.falls.now b.rises.now b.floor) (duals_of a.falls.now a.rises.now a.floor) c.args.amounts.now
    c.part_at-part.ensures (c.columns-answer.ensures ∙ ap columns_of c.at-branch.ensures) (c.duals-before.ensures ∙ ap (λ (branch : Branch). branch.duals) c.at-branch.ensures) c.lend-after.ensures
    (c.is_above_child.ensures true_one objective X c.args.ground.now.same) c.requires.above
