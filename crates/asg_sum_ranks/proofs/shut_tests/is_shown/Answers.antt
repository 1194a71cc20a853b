use Rattle.asg_sum_ranks.proofs.Common.{◌≤◌, arith, sum_at, child_at}
use Rattle.asg_sum_ranks.proofs.shut_tests.is_shown.Goals as goal

pub returns-then-least-bound : goal.returns-then-least-bound
returns-then-least-bound c = λ true_one f answer within.
    let objective = c.args.ground.now.objective in
    let X = c.args.ground.now.inst.now in
    let bound : c.in-Some.bound ≤ sum_at objective X f = c.dual_bound_law.ensures objective X (child_at c.args.branches.now c.args.place c.args.row) c.args.amounts.now c.in-Some.bound f (c.is_above_at.ensures true_one) c.in-Some.ensures answer within in
    omega arith
