use Rattle.asg_trees.proofs.Common.{lies_within}
use Rattle.asg_trees.proofs.trees.judge_tree.Goals as goal

pub start-requires-clause-near : goal.start-requires-clause-near
start-requires-clause-near g c = lies_within (g.K.Kind.reach c.args.kind.now) c.args.inst.now c.requires.reach c.rows.ensures.instance
