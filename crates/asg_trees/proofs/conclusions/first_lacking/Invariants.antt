use Rattle.asg_trees.proofs.Common.{ℕ, ◌≤◌, IsGiven}
use Rattle.asg_trees.proofs.conclusions.first_lacking.Given as goal

-- each answer so far has a node
abbrev pub invariant-loop-before : goal.invariant-loop-before
invariant-loop-before l = (a : ℕ) → 1 ≤ a → a ≤ l.before → IsGiven l.nodes a
