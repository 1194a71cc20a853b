use Rattle.asg_sum_ranks.proofs.Common.{◌≤◌, length, arith}
use Rattle.asg_sum_ranks.proofs.Rankings.{ranking}
use Rattle.asg_sum_ranks.proofs.ranking_tests.is_ranking.Goals as goal

pub returns : goal.returns
returns c = λ true_one.
    let some : 1 ≤ length c.args.branches.now = omega arith in
    ranking c.args.ground.now.objective c.args.ground.now.inst.now c.args.branches.now (c.are_branches.ensures c.if-not-are_branches.false) c.args.count c.in-Some.least some (omega arith) c.in-Some.ensures (c.are_all_shut.ensures true_one)
