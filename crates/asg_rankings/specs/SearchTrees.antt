-- Search trees: what they must hold to prove that nothing better was left out.
use Rattle.std.specs.Prelude.{◌≡◌, ◌≢◌, ℕ, ◌<◌, ◌≤◌, Bool, true, false, IsTrue, ◌==◌, ◌&&◌, Option, List, [], length, map, count_by}
use Rattle.asg_model.specs.declared.bands.Band.TheVariants.{Whole}
use Rattle.asg_model.specs.declared.parts.Cost.{Cost}
use Rattle.asg_model.specs.Counts.{placed}
use Rattle.asg_model.specs.HallSet.{IsHall}
use Rattle.asg_model.specs.Problem.{Problem}
use Rattle.asg_model.specs.Shapes.{square_side}
use Rattle.asg_model.specs.ValidChoice.{IsValid}
use Rattle.asg_order.specs.Bridge.{choice_fold}
use Rattle.asg_order.specs.Monoid.{Monoid, IsLe}
use Rattle.asg_order.specs.declared.words.Word.{Word}
use Rattle.asg_proof.specs.Phases.{PhaseOf, worded, AreAdmittedPhases, index_of}
use Rattle.asg_square.specs.Cells.{square_cell}
use Rattle.asg_rankings.specs.declared.nodes.Mark.{Mark}
use Rattle.asg_rankings.specs.declared.nodes.Mark.TheVariants.{Answered, Open, Empty}
use Rattle.asg_rankings.specs.declared.nodes.Node.{Node}
use Rattle.asg_rankings.specs.Nodes.{node_at, IsNumber, answer_number, answer_at, node_instance, node_trail}

-- the node has an answer
abbrev pub is_answered : Mark → Bool
is_answered (Answered a) = true
is_answered _ = false

-- node number n names a parent before it that has an answer, and a branch from 1 to k
pub record IsBelowParent (k : ℕ) (nodes : List Node) (n : ℕ) : Type 0 where
  pub there : 1 ≤ (node_at nodes n).parent
  pub before : (node_at nodes n).parent < n
  pub answered : IsTrue (is_answered (node_at nodes (node_at nodes n).parent).mark)
  pub branch_from : 1 ≤ (node_at nodes n).branch
  pub branch_upto : (node_at nodes n).branch ≤ k

-- node number n has its place: the root has neither parent nor branch, any other node both
pub record HasPlace (k : ℕ) (nodes : List Node) (n : ℕ) : Type 0 where
  pub root_parent : n ≡ 1 → (node_at nodes n).parent ≡ 0
  pub root_branch : n ≡ 1 → (node_at nodes n).branch ≡ 0
  pub below : 1 < n → IsBelowParent k nodes n

-- how many nodes name this parent and this branch
abbrev pub child_count : List Node → ℕ → ℕ → ℕ
child_count nodes parent branch =
    count_by (λ node. (node.parent == parent) && (node.branch == branch)) nodes

-- node number n has answer a: one of the answers, that of no node before it and valid for its
-- instance; and each branch has one node
pub record HasAnswer (X : Problem) (answers : List (List (Option ℕ)))
    (nodes : List Node) (n a : ℕ) : Type 0 where
  pub from : 1 ≤ a
  pub upto : a ≤ length answers
  pub first : (m : ℕ) → 1 ≤ m → m < n → answer_number (node_at nodes m).mark ≢ a
  pub valid : IsValid (node_instance X answers nodes n) (answer_at answers a)
  pub branches : (i : ℕ) → 1 ≤ i → i ≤ placed X → child_count nodes n i ≡ 1

-- the words of a trail are those of phases of values that are admitted in turn from the square of
-- an instance
pub record AreAdmittedWords {V : Type 0} (M : Monoid V) (difference : V → V → V) (word_of : V → Word)
    (enter : Cost → V) (Y : Problem) (words : List (PhaseOf Word)) : Type 0 where
  pub phases : List (PhaseOf V)
  pub written : map (worded word_of) phases ≡ words
  pub admitted : AreAdmittedPhases M difference (square_side Y) phases (square_cell Y M.unit enter)

-- the trail of node number n is admitted in turn from the square of its instance
abbrev pub HasTrail : {V : Type 0} → Monoid V → (V → V → V) → (V → Word) → (Cost → V)
    → Problem → List (List (Option ℕ)) → List Node → ℕ → Type 0
HasTrail M difference word_of enter X answers nodes n =
    AreAdmittedWords M difference word_of enter (node_instance X answers nodes n) (node_trail nodes n)

-- what its mark asks of node number n: of an answered node the answer and the trail, of an open one
-- the trail, of an empty one a Hall set of its instance and no phases
abbrev pub IsMarked : {V : Type 0} → Monoid V → (V → V → V) → (V → Word) → (Cost → V)
    → Problem → List (List (Option ℕ)) → List Node → ℕ → Mark → Type 0
IsMarked M difference word_of enter X answers nodes n (Answered a) =
    HasAnswer X answers nodes n a × HasTrail M difference word_of enter X answers nodes n
IsMarked M difference word_of enter X answers nodes n Open =
    HasTrail M difference word_of enter X answers nodes n
IsMarked M difference word_of enter X answers nodes n (Empty rows) =
    IsHall (node_instance X answers nodes n) Whole rows × ((node_at nodes n).own ≡ [])

-- node number n is as it must be
pub record IsSoundNode {V : Type 0} (M : Monoid V) (difference : V → V → V) (word_of : V → Word)
    (enter : Cost → V) (X : Problem) (answers : List (List (Option ℕ))) (nodes : List Node) (n : ℕ)
    : Type 0 where
  pub has_place : HasPlace (placed X) nodes n
  pub marked : IsMarked M difference word_of enter X answers nodes n (node_at nodes n).mark

-- the last answer
abbrev pub last_answer : List (List (Option ℕ)) → List (Option ℕ)
last_answer answers = answer_at answers (length answers)

-- node number n may be left open: as many answers are listed as were asked for, and the last one's
-- product is at most the index of the node's trail
pub record MayStayOpen {V : Type 0} (M : Monoid V) (difference : V → V → V) (word_of : V → Word)
    (enter : Cost → V) (X : Problem) (count : ℕ) (answers : List (List (Option ℕ))) (nodes : List Node)
    (n : ℕ) : Type 0 where
  pub full : count ≤ length answers
  pub trail : HasTrail M difference word_of enter X answers nodes n
  pub bound : IsLe M (choice_fold M enter X (last_answer answers)) (index_of M trail.phases)

-- some node has answer a
pub record IsGiven (nodes : List Node) (a : ℕ) : Type 0 where
  pub node : ℕ
  pub there : IsNumber nodes node
  pub marked : (node_at nodes node).mark ≡ Answered a

-- the nodes are a search tree of the answers: there is a root, each node is as it must be, each
-- answer has a node, and no node is open that may not be
pub record IsSearchTree {V : Type 0} (M : Monoid V) (difference : V → V → V) (word_of : V → Word)
    (enter : Cost → V) (X : Problem) (count : ℕ) (answers : List (List (Option ℕ))) (nodes : List Node)
    : Type 0 where
  pub root : 1 ≤ length nodes
  pub sound : (n : ℕ) → IsNumber nodes n → IsSoundNode M difference word_of enter X answers nodes n
  pub given : (a : ℕ) → 1 ≤ a → a ≤ length answers → IsGiven nodes a
  pub open_nodes : (n : ℕ) → IsNumber nodes n → (node_at nodes n).mark ≡ Open
      → MayStayOpen M difference word_of enter X count answers nodes n
