use Rattle.asg_trees.proofs.Common.{◌≤◌, length}
use Rattle.asg_trees.proofs.heavy_children.heavy_children.Given as goal

abbrev pub invariant-nodes : goal.invariant-nodes
invariant-nodes l = l.n ≤ length l.nodes

abbrev pub decreases-nodes : goal.decreases-nodes
decreases-nodes l = l.n
