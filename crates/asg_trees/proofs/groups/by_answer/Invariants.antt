use Rattle.asg_trees.proofs.Common.{◌≤◌, length, AreGroupsAbove, answer_keys}
use Rattle.asg_trees.proofs.groups.by_answer.Given as goal

-- the numbers above this one are grouped
abbrev pub invariant-numbers : goal.invariant-numbers
invariant-numbers l = record {
  upto : l.above ≤ length l.nodes;
  groups : AreGroupsAbove (answer_keys l.nodes) l.answers l.above l.first.items l.next.items;
}

abbrev pub decreases-numbers : goal.decreases-numbers
decreases-numbers l = l.above
