-- What is known of a tree so far: the least node at fault, and the least that is open and may not
-- be.
use Rattle.std.specs.Prelude.{◌≡◌, ℕ, ◌+◌, ◌<◌, ◌≤◌, ◌==◌, min, if◌then◌else◌, List, length}
use Rattle.asg_model.specs.Counts.{placed}
use Rattle.asg_rankings.specs.declared.nodes.Node.{Node}
use Rattle.asg_rankings.specs.Nodes.{node_at}
use Rattle.asg_rankings.specs.SearchTrees.{HasPlace}
use Rattle.asg_trees.specs.declared.verdicts.Judgement.{Judgement}
use Rattle.asg_trees.specs.declared.verdicts.Judgement.TheVariants.{AtFault, LeftOpen, Fine}
use Rattle.asg_trees.specs.declared.verdicts.Tally.{Tally}
use Rattle.asg_trees.specs.Trees.{TreeOf, IsSound, MayBeOpen, IsOpenWrongly}

-- a judgement of a node
abbrev pub Judges : {V : Type 0} → TreeOf V → ℕ → Judgement → Type 0
Judges T n AtFault = ¬ IsSound T n
Judges T n LeftOpen = IsSound T n × IsOpenWrongly T n
Judges T n Fine = IsSound T n × MayBeOpen T n

-- the nodes that name a parent, before a number
abbrev pub IsJudged : List Node → ℕ → ℕ → ℕ → Type 0
IsJudged nodes parent before n = ((node_at nodes n).parent ≡ parent) × (n < before)

-- each node before this number has its place
abbrev pub HavePlaces : {V : Type 0} → TreeOf V → ℕ → Type 0
HavePlaces T bound = (n : ℕ) → 1 ≤ n → n < bound → HasPlace (placed T.problem) T.nodes n

-- the tally of nodes that were judged; a number past the last says that there is none
pub record IsTalliedBy {V : Type 0} (T : TreeOf V) (Judged : ℕ → Type 0) (tally : Tally) : Type 0 where
  pub from : 1 ≤ tally.fault
  pub upto : tally.fault ≤ length T.nodes + 1
  pub places : HavePlaces T tally.fault
  pub at_fault : tally.fault ≤ length T.nodes → ¬ IsSound T tally.fault
  pub sound : (n : ℕ) → 1 ≤ n → n < tally.fault → Judged n → IsSound T n
  pub left_from : 1 ≤ tally.left
  pub left_open : tally.left ≤ length T.nodes → IsOpenWrongly T tally.left
  pub stay : (n : ℕ) → 1 ≤ n → n < tally.fault → n < tally.left → Judged n → MayBeOpen T n

-- a tally of which no node need have been judged
abbrev pub IsFair : {V : Type 0} → TreeOf V → Tally → Type 0
IsFair T tally = IsTalliedBy T (λ n. ⊥) tally

-- the tally of the nodes that name a parent, before a number
abbrev pub IsTallied : {V : Type 0} → TreeOf V → ℕ → ℕ → Tally → Type 0
IsTallied T parent before tally = IsTalliedBy T (IsJudged T.nodes parent before) tally

-- where more nodes were judged, neither number rises
pub record Falls (before after : Tally) : Type 0 where
  pub fault : after.fault ≤ before.fault
  pub left : after.left ≤ before.left

-- a node that stands before the first at fault is as it must be, and may be open if it stands before
-- the first that may not
pub record IsSettled {V : Type 0} (T : TreeOf V) (tally : Tally) (n : ℕ) : Type 0 where
  pub sound : IsSound T n
  pub stay : n < tally.left → MayBeOpen T n

-- the tally with a judgement of a node
abbrev pub with_judgement : Tally → ℕ → Judgement → Tally
with_judgement tally n AtFault = record tally { fault = n }
with_judgement tally n LeftOpen = record tally { left = min tally.left n }
with_judgement tally n Fine = tally

-- a tally with some judgement of node number n that holds
pub record TalliesNode {V : Type 0} (T : TreeOf V) (n : ℕ) (before after : Tally) : Type 0 where
  pub judgement : Judgement
  pub judges : Judges T n judgement
  pub same : after ≡ with_judgement before n judgement

-- the tally where all nodes before the first at fault were judged
abbrev pub IsWholeTally : {V : Type 0} → TreeOf V → Tally → Type 0
IsWholeTally T tally = IsTalliedBy T (λ n. Unit {0}) tally

-- where the nodes that name a parent are gone through in order, those before this number were
-- judged
abbrev pub judged_before : ℕ → ℕ → ℕ
judged_before nodes member = if member == 0 then nodes + 1 else member
