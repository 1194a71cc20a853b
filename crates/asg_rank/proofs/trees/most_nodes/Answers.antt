use Rattle.asg_rank.proofs.Common.{arith}
use Rattle.asg_rank.proofs.Sizes.{few_children}
use Rattle.asg_rank.proofs.trees.most_nodes.Goals as goal

pub overflow_mul-result : goal.overflow_mul-result
overflow_mul-result g =
    let few = few_children g.args.inst.now g.rows-rows.ensures.instance g.args.room g.requires.work g.placed.result g.placed.ensures in
    omega (arith, few)

pub overflow_add-result : goal.overflow_add-result
overflow_add-result g =
    let few = few_children g.args.inst.now g.rows-rows.ensures.instance g.args.room g.requires.work g.placed.result g.placed.ensures in
    omega (arith, few)
