use Rattle.asg_sum_ranks.proofs.part_tests.has_answer.Goals as goal

pub returns : goal.returns
returns c = λ true_one. c.is_answer.ensures.answer true_one c.args.ground.now.objective c.args.ground.now.inst.now c.args.ground.now.same
