use Rattle.asg_trees.proofs.Common.{◌≤◌, length, AreGroupsAbove}
use Rattle.asg_trees.proofs.groups.group.Given as goal

-- the numbers above this one are grouped
abbrev pub invariant-numbers : goal.invariant-numbers
invariant-numbers l = record {
  upto : l.above ≤ length l.keys;
  groups : AreGroupsAbove l.keys l.count l.above l.first.items l.next.items;
}

abbrev pub decreases-numbers : goal.decreases-numbers
decreases-numbers l = l.above
