use Rattle.asg_rank.proofs.Common.{refl}
use Rattle.asg_rank.proofs.Sizes.{few_children, few_nodes}
use Rattle.asg_rank.proofs.trees.tree_memory.Goals as goal

pub node_memory-requires : goal.node_memory-requires
node_memory-requires g c =
    few_nodes c.args.inst.now c.most_nodes-nodes.ensures.instance c.args.room c.requires.work c.most_nodes-nodes.result c.row_count-rows.result c.most_nodes-nodes.ensures.nodes c.row_count-rows.ensures

pub returns-clause-small : goal.returns-clause-small
returns-clause-small g c =
    few_children c.args.inst.now c.most_nodes-nodes.ensures.instance c.args.room c.requires.work _ refl
