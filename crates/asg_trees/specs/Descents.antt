-- Nodes below another, and what is tallied of them.
use Rattle.std.specs.Prelude.{◌≡◌, ◌≢◌, ◌⊎◌, ℕ, zero, suc, ◌<◌, ◌≤◌, IsTrue, List}
use Rattle.asg_rankings.specs.declared.nodes.Node.{Node}
use Rattle.asg_rankings.specs.Nodes.{node_at}
use Rattle.asg_rankings.specs.SearchTrees.{is_answered}
use Rattle.asg_trees.specs.declared.verdicts.Tally.{Tally}
use Rattle.asg_trees.specs.Tallies.{IsSettled}
use Rattle.asg_trees.specs.Trees.{TreeOf}

-- a node is below another by at most so many parents
abbrev pub IsBelowWithin : List Node → ℕ → ℕ → ℕ → Type 0
IsBelowWithin nodes p zero n = ⊥
IsBelowWithin nodes p (suc steps) n =
    (1 < n) × (((node_at nodes n).parent ≡ p) ⊎ IsBelowWithin nodes p steps (node_at nodes n).parent)

-- a node is below another: that is its parent, its parent's parent, or one further up
abbrev pub IsBelow : List Node → ℕ → ℕ → Type 0
IsBelow nodes p n = (steps : ℕ) × IsBelowWithin nodes p steps n

-- all nodes below one are settled, before the first at fault
abbrev pub AreSettledBelow : {V : Type 0} → TreeOf V → ℕ → Tally → Type 0
AreSettledBelow T p tally =
    (n : ℕ) → 1 ≤ n → n < tally.fault → IsBelow T.nodes p n → IsSettled T tally n

-- all nodes below one are settled but those below another
abbrev pub AreSettledBut : {V : Type 0} → TreeOf V → ℕ → ℕ → Tally → Type 0
AreSettledBut T p at tally =
    (n : ℕ) → 1 ≤ n → n < tally.fault → IsBelow T.nodes p n → IsBelow T.nodes at n ⊎ IsSettled T tally n

-- of the nodes that name a parent, all nodes below each that stands before a number are settled, but
-- for one
abbrev pub AreSettledBelowEach : {V : Type 0} → TreeOf V → ℕ → ℕ → ℕ → Tally → Type 0
AreSettledBelowEach T parent but before tally =
    (m : ℕ) → 1 ≤ m → (node_at T.nodes m).parent ≡ parent → m ≢ but → m < before → AreSettledBelow T m tally

-- an answered node before the first at fault names another as its parent
pub record LeadsOn (nodes : List Node) (at next fault : ℕ) : Type 0 where
  pub from : 1 ≤ next
  pub before : next < fault
  pub parent : (node_at nodes next).parent ≡ at
  pub answered : IsTrue (is_answered (node_at nodes next).mark)
