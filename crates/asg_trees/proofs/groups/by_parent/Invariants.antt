use Rattle.asg_trees.proofs.Common.{◌≡◌, take, parent_keys}
use Rattle.asg_trees.proofs.groups.by_parent.Given as goal

-- the keys are those of the nodes so far
abbrev pub invariant-loop-place : goal.invariant-loop-place
invariant-loop-place l = l.keys.items ≡ parent_keys (take l.place l.nodes)
