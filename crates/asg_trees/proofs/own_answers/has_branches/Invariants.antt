use Rattle.asg_trees.proofs.Common.{◌≡◌, ℕ, ◌≤◌, child_count}
use Rattle.asg_trees.proofs.own_answers.has_branches.Given as goal

-- each branch so far has one node
abbrev pub invariant-loop-before : goal.invariant-loop-before
invariant-loop-before l = (i : ℕ) → 1 ≤ i → i ≤ l.before → child_count l.nodes l.n i ≡ 1
