use Rattle.asg_sum_ranks.proofs.Common.{ap, ◌∙◌, part_of, duals_of, Branch, columns_of}
use Rattle.asg_sum_ranks.proofs.Steps.{gaps_by}
use Rattle.asg_sum_ranks.proofs.part_tests.measure.Goals as goal

pub returns : goal.returns
returns c = λ true_one below sound.
    let objective = c.args.ground.now.objective in
    let X = c.args.ground.now.inst.now in
    let p = c.part_at-part.result in
    let d = c.duals-duals.result in
    gaps_by objective X c.args.branches.now c.args.place c.child_gaps.new.gaps (part_of p.columns.now p.row p.banned.now) c.columns-answer.result.now (duals_of d.falls.now d.rises.now d.floor) c.args.ground.now.table.rows
    c.part_at-part.ensures (c.columns-answer.ensures ∙ ap columns_of c.at-branch.ensures) (c.duals-duals.ensures ∙ ap (λ (branch : Branch). branch.duals) c.at-branch.ensures) c.args.ground.now.same.rows
    (c.child_gaps.ensures.gaps true_one objective X c.args.ground.now.same) sound
