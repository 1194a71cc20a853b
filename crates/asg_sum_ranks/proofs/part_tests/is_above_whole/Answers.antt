use Rattle.asg_sum_ranks.proofs.Common.{subst, AreAbove}
use Rattle.asg_sum_ranks.proofs.part_tests.is_above_whole.Goals as goal

pub returns : goal.returns
returns c = λ true_one part.
    subst (AreAbove c.args.ground.now.objective c.args.ground.now.inst.now part) c.duals-duals.ensures (c.is_above.ensures true_one c.args.ground.now.objective c.args.ground.now.inst.now part c.args.ground.now.same)
