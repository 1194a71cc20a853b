use Rattle.asg_rank.proofs.NodeSteps.{AreFirstNodes}
use Rattle.asg_rank.proofs.written_nodes.push_nodes.Given as goal

-- the first nodes of the tree
abbrev pub invariant-nodes : goal.invariant-nodes
invariant-nodes g l = AreFirstNodes (g.M.Ordered.monoid_of l.m).unit (g.M.Written.word_of l.m) l.tree l.here-index l.nodes.items
