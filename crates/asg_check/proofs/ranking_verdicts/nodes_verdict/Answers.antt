use Rattle.asg_check.proofs.Common.{sym, subst, arith, NodesStand, Tells, node_reasons}
use Rattle.asg_check.proofs.RankingStages.{fault_told, fault_upto, lacks_told, left_upto, open_told, tree_told}
use Rattle.asg_check.proofs.ranking_verdicts.nodes_verdict.Goals as goal

pub returns-in-Tree : goal.returns-in-Tree
returns-in-Tree c = tree_told c.args.objective c.args.inst.now c.args.count c.args.choices.now c.args.nodes.now (rw c.in-Tree.is at c.in_ok-judge.ensures)

pub returns-in-FaultAt : goal.returns-in-FaultAt
returns-in-FaultAt c =
    subst (Tells (NodesStand c.args.objective c.args.inst.now c.args.count c.args.choices.now c.args.nodes.now) node_reasons) (sym c.at_node.ensures)
    (fault_told c.args.objective c.args.inst.now c.args.count c.args.choices.now c.args.nodes.now c.in-FaultAt.node (rw c.in-FaultAt.is at c.in_ok-judge.ensures))

pub at_node-requires : goal.at_node-requires
at_node-requires c =
    let upto = fault_upto c.args.objective c.args.inst.now c.args.count c.args.choices.now c.args.nodes.now c.in-FaultAt.node (rw c.in-FaultAt.is at c.in_ok-judge.ensures) in omega (arith, upto)

pub at_node-requires-in-OpenAt : goal.at_node-requires-in-OpenAt
at_node-requires-in-OpenAt c =
    let upto = left_upto c.args.objective c.args.inst.now c.args.count c.args.choices.now c.args.nodes.now c.in-OpenAt.node (rw c.in-OpenAt.is at c.in_ok-judge.ensures) in omega (arith, upto)

pub returns-in-NodeLacks : goal.returns-in-NodeLacks
returns-in-NodeLacks c =
    subst (Tells (NodesStand c.args.objective c.args.inst.now c.args.count c.args.choices.now c.args.nodes.now) node_reasons) (sym c.verdict.ensures)
    (lacks_told c.args.objective c.args.inst.now c.args.count c.args.choices.now c.args.nodes.now (rw c.in-NodeLacks.is at c.in_ok-judge.ensures))

pub returns-in-OpenAt : goal.returns-in-OpenAt
returns-in-OpenAt c =
    subst (Tells (NodesStand c.args.objective c.args.inst.now c.args.count c.args.choices.now c.args.nodes.now) node_reasons) (sym c.at_node-in-OpenAt.ensures)
    (open_told c.args.objective c.args.inst.now c.args.count c.args.choices.now c.args.nodes.now c.in-OpenAt.node (rw c.in-OpenAt.is at c.in_ok-judge.ensures))
