use Rattle.asg_rank.proofs.Common.{arith}
use Rattle.asg_rank.proofs.written_nodes.node_of.Goals as goal

pub returns-clause-part : goal.returns-clause-part
returns-clause-part c = record {
  parent_fits = omega (arith, c.ranges.parent);
  branch_fits = omega (arith, c.ranges.branch);
  mark_is = c.requires;
  own_are = c.len-count.ensures.phases;
}
