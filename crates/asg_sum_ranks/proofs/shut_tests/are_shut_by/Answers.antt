use Rattle.asg_sum_ranks.proofs.Common.{◌≡◌, ◌<◌, ◌≤◌, length, ap, ◌∙◌, arith, Branch, branch_at}
use Rattle.asg_sum_ranks.proofs.Steps.{shut_more}
use Rattle.asg_sum_ranks.proofs.shut_tests.are_shut_by.Goals as goal

pub is_shut-requires-clause-bound : goal.is_shut-requires-clause-bound
is_shut-requires-clause-bound c =
    let first : c.row-first.result ≡ (branch_at c.args.branches.now c.args.place).row = c.row-first.ensures ∙ ap (λ (branch : Branch). branch.row) c.at.ensures in
    let from : (branch_at c.args.branches.now c.args.place).row ≤ c.children.row = omega arith in
    let rows : c.args.ground.now.table.rows ≡ length c.args.ground.now.inst.now.rows = c.args.ground.now.same.rows in
    let upto : c.children.row < length c.args.ground.now.inst.now.rows = omega (arith, c.rows-rows.ensures.rows) in
    c.requires.gaps c.children.row c.args.bound from upto c.requires.bound

pub children-preserved : goal.children-preserved
children-preserved c =
    shut_more c.args.ground.now.objective c.args.ground.now.inst.now c.args.branches.now c.args.least c.args.place c.children.row c.children.invariant (c.is_shut.ensures c.if-not-is_shut.false)

pub returns : goal.returns
returns c = λ _ r from upto.
    let rows : c.args.ground.now.table.rows ≡ length c.args.ground.now.inst.now.rows = c.args.ground.now.same.rows in
    c.children.invariant r from (omega (arith, c.rows-rows.ensures.rows))
