use Rattle.asg_trees.proofs.Common.{ℕ, ◌≤◌, HasPlace}
use Rattle.asg_trees.proofs.places.first_misplaced.Given as goal

-- each node so far has its place
abbrev pub invariant-loop-place : goal.invariant-loop-place
invariant-loop-place l = (n : ℕ) → 1 ≤ n → n ≤ l.place → HasPlace l.branches l.nodes n
