use Rattle.asg_trees.proofs.Common.{◌≡◌, ℕ, ◌+◌, ◌-◌, ◌≤◌, cond, ◌&&◌, eqb, ◌≢◌, length, take, count_by, node_at, judged_before}
use Rattle.asg_trees.proofs.BranchLemmas.{one_upto}
use Rattle.asg_trees.proofs.own_answers.are_in_order.Given as goal

-- the branches so far have one node each, and no others have one
abbrev pub invariant-members : goal.invariant-members
invariant-members l = record {
  upto : l.member ≤ length l.nodes;
  named : l.member ≢ 0 → (node_at l.nodes l.member).parent ≡ l.n;
  few : l.count ≤ l.branches;
  counted : (i : ℕ) → 1 ≤ i → one_upto l.count i ≡ count_by (λ node. eqb node.parent l.n && eqb node.branch i) (take (judged_before (length l.nodes) l.member - 1) l.nodes);
}

abbrev pub decreases-members : goal.decreases-members
decreases-members l = cond (eqb l.member 0) 0 (length l.nodes + 1 - l.member)
