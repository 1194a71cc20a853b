use Rattle.asg_rankings.proofs.Common.{subst, AreNodeParts}
use Rattle.asg_rankings.proofs.nodes.Nodes.as_slice.Goals as goal

pub returns-clause-nodes : goal.returns-clause-nodes
returns-clause-nodes c = subst AreNodeParts c.self.view_is c.self.invariant
