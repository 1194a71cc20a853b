-- The search tree of a ranker: for which part of the instance each node stands, and what is known
-- of it.
use Rattle.std.specs.Prelude.{◌≡◌, ℕ, ◌+◌, ◌*◌, ◌<◌, ◌≤◌, List, [], length, Option, None, slice_index_or, vec_capacity}
use Rattle.asg_model.specs.declared.bands.Band.TheVariants.{Whole}
use Rattle.asg_model.specs.Counts.{placed}
use Rattle.asg_model.specs.HallSet.{IsHall}
use Rattle.asg_model.specs.Problem.{Problem}
use Rattle.asg_rankings.specs.Children.{child}
use Rattle.asg_rankings.specs.Frontiers.{IsFrontier}
use Rattle.asg_nodes.specs.declared.entries.Entry.{Entry}
use Rattle.asg_nodes.specs.declared.entries.State.{State}
use Rattle.asg_nodes.specs.declared.entries.State.TheVariants.{Answered, Open, Empty}
use Rattle.asg_nodes.specs.declared.trees.Tree.{Tree}
use Rattle.asg_nodes.specs.Entries.{entry_at, is_open_at, child_number, IsNext}
use Rattle.asg_nodes.specs.HallPools.{HallSets, hall_at}
use Rattle.asg_pool.specs.Forest.{Forest}
use Rattle.asg_nodes.specs.Rules.{Rules, Leads}

-- the answer at a place, which count from 0
abbrev pub given_at : List (List (Option ℕ)) → ℕ → List (Option ℕ)
given_at given a = slice_index_or given a []

-- the parts: the root's is the instance, and that of a child the child of the part of the node with
-- an answer
pub record AreParts (X : Problem) (given : List (List (Option ℕ))) (winner : ℕ → ℕ) (part : ℕ → Problem) : Type 0 where
  pub root : part 1 ≡ X
  pub children : (a i : ℕ) → a < length given → 1 ≤ i → i ≤ placed X
      → part (child_number (placed X) a i) ≡ child (part (winner a)) (given_at given a) i

-- what its state says of node number n: which answer it has, or its Hall set
abbrev pub HasState : List (List (Option ℕ)) → (ℕ → ℕ) → HallSets → Problem → ℕ → State → Type 0
HasState given winner halls Y n (Answered b) =
    (a : ℕ) × (b ≡ a + 1) × (a < length given) × (winner a ≡ n)
HasState given winner halls Y n Open = Unit {0}
HasState given winner halls Y n (Empty h) = (h < length halls.sets) × IsHall Y Whole (hall_at halls h)

-- a state that names a Hall set that is there, and the set
abbrev pub NamesHall : HallSets → State → Type 0
NamesHall halls (Empty h) = h < length halls.sets
NamesHall halls _ = ⊥

abbrev pub hall_in : HallSets → State → List ℕ
hall_in halls (Empty h) = hall_at halls h
hall_in halls _ = []

-- an empty node has no phases of its own
abbrev pub HasNoPhases : Option ℕ → Option ℕ → State → Type 0
HasNoPhases before trail (Empty h) = trail ≡ before
HasNoPhases before trail _ = Unit {0}

-- what is known of node number n, which stands for the instance Y
pub record IsNode {V : Type 0} (R : Rules V) (given : List (List (Option ℕ))) (winner : ℕ → ℕ) (F : Forest V)
    (halls : HallSets) (Y : Problem) (n : ℕ) (e : Entry V) : Type 0 where
  pub leads : Leads R F Y e.trail e.index
  pub state_is : HasState given winner halls Y n e.state

-- the root has no parent
pub record IsRoot {V : Type 0} (e : Entry V) : Type 0 where
  pub parent_is : e.parent ≡ 0
  pub branch_is : e.branch ≡ 0
  pub empty : HasNoPhases None e.trail e.state

-- a node is the child by a branch of another one, the node of this number
pub record IsChildOf {V : Type 0} (F : Forest V) (parent : ℕ) (above : Entry V) (branch : ℕ) (e : Entry V) : Type 0 where
  pub parent_is : e.parent ≡ parent
  pub branch_is : e.branch ≡ branch
  pub next : IsNext F above.trail e.trail
  pub empty : HasNoPhases above.trail e.trail e.state

-- of so many nodes number n has an answer; it stands before its children
pub record IsWinner {V : Type 0} (k a count n : ℕ) (e : Entry V) : Type 0 where
  pub from : 1 ≤ n
  pub there : n ≤ count
  pub upto : n ≤ 1 + a * k
  pub state_is : e.state ≡ Answered (a + 1)

-- the tree of the answers that were given, up to a number of nodes, the last of which may still be
-- to come; a frontier of open parts is left
pub record IsTree {V : Type 0} (R : Rules V) (X : Problem) (given : List (List (Option ℕ))) (winner : ℕ → ℕ)
    (upto : ℕ) (T : Tree V) (part : ℕ → Problem) : Type 0 where
  pub parts : AreParts X given winner part
  pub upto_is : upto ≡ 1 + length given * placed X
  pub some : 1 ≤ length T.entries.items
  pub few : length T.entries.items ≤ upto
  pub root : IsRoot (entry_at R.monoid.unit T.entries.items 1)
  pub nodes : (n : ℕ) → 1 ≤ n → n ≤ length T.entries.items
      → IsNode R given winner T.region T.halls (part n) n (entry_at R.monoid.unit T.entries.items n)
  pub winners : (a : ℕ) → a < length given → IsWinner (placed X) a (length T.entries.items) (winner a)
      (entry_at R.monoid.unit T.entries.items (winner a))
  pub children : (a i : ℕ) → a < length given → 1 ≤ i → i ≤ placed X
      → child_number (placed X) a i ≤ length T.entries.items
      → IsChildOf T.region (winner a) (entry_at R.monoid.unit T.entries.items (winner a)) i
      (entry_at R.monoid.unit T.entries.items (child_number (placed X) a i))
  pub frontier : IsFrontier X given (is_open_at R.monoid.unit T.entries.items upto) part

-- there is memory for so many more nodes, each with a phase or a Hall set
pub record HasRoomFor {V : Type 0} (T : Tree V) (nodes phases : ℕ) : Type 0 where
  pub entries_fit : length T.entries.items + nodes ≤ vec_capacity T.entries
  pub phases_fit : phases ≤ T.region.spare
  pub halls_fit : length T.halls.sets + phases ≤ T.halls.most
