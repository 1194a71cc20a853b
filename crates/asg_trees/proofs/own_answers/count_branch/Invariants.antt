use Rattle.asg_trees.proofs.Common.{◌≡◌, ◌+◌, ◌-◌, ◌<◌, ◌≤◌, cond, ◌&&◌, eqb, ◌≢◌, length, take, count_by, node_at, judged_before}
use Rattle.asg_trees.proofs.own_answers.count_branch.Given as goal

-- the nodes of the branch so far are counted
abbrev pub invariant-members : goal.invariant-members
invariant-members l = record {
  upto : l.member ≤ length l.nodes;
  named : l.member ≢ 0 → (node_at l.nodes l.member).parent ≡ l.n;
  few : l.count < judged_before (length l.nodes) l.member;
  counted : l.count ≡ count_by (λ node. eqb node.parent l.n && eqb node.branch l.branch) (take (judged_before (length l.nodes) l.member - 1) l.nodes);
}

abbrev pub decreases-members : goal.decreases-members
decreases-members l = cond (eqb l.member 0) 0 (length l.nodes + 1 - l.member)
