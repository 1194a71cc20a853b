-- What is written of the nodes of a tree.
use Rattle.std.specs.Prelude.{◌≡◌, ℕ, ◌<◌, ◌≤◌, ◌^◌, List, [], ◌++◌, ◌∷◌, length, map, IfSome, Option}
use Rattle.asg_admit.specs.PhaseValues.{AreOfValues}
use Rattle.asg_order.specs.Monoid.{Monoid}
use Rattle.asg_order.specs.declared.words.Word.{Word}
use Rattle.asg_pool.specs.Forest.{Forest, IsLive, phases_to}
use Rattle.asg_proof.specs.Phases.{PhaseOf, worded}
use Rattle.asg_rankings.specs.declared.nodes.Mark.{Mark}
use Rattle.asg_rankings.specs.declared.nodes.Mark.TheVariants.{Answered as MarkAnswered, Open as MarkOpen, Empty as MarkEmpty}
use Rattle.asg_rankings.specs.declared.nodes.Node.{Node}
use Rattle.asg_rankings.specs.NodeLists.{IsNodePart}
use Rattle.asg_rankings.specs.Nodes.{node_at}
use Rattle.asg_nodes.specs.declared.entries.Entry.{Entry}
use Rattle.asg_nodes.specs.declared.entries.State.{State}
use Rattle.asg_nodes.specs.declared.entries.State.TheVariants.{Answered, Open, Empty}
use Rattle.asg_nodes.specs.declared.trees.Tree.{Tree}
use Rattle.asg_nodes.specs.Entries.{entry_at, IsNext}
use Rattle.asg_nodes.specs.HallPools.{HallSets, hall_at}

-- the phases of a trail beyond those of the one before, with each step as its word: at most one
pub record AreOwn {V : Type 0} (word_of : V → Word) (F : Forest V) (before trail : Option ℕ)
    (written : List (PhaseOf Word)) : Type 0 where
  pub own : List (PhaseOf V)
  pub one : length own ≤ 1
  pub list : phases_to F trail ≡ phases_to F before ++ own
  pub words : written ≡ map (worded word_of) own

-- the Hall set of an empty node is there
abbrev pub IsStateOf : HallSets → State → Type 0
IsStateOf halls (Answered number) = number < 2 ^ 32
IsStateOf halls Open = Unit {0}
IsStateOf halls (Empty h) = h < length halls.sets

-- the mark says what the state does
abbrev pub IsWrittenMark : HallSets → State → Mark → Type 0
IsWrittenMark halls (Answered number) mark = mark ≡ MarkAnswered number
IsWrittenMark halls Open mark = mark ≡ MarkOpen
IsWrittenMark halls (Empty h) mark = mark ≡ MarkEmpty (hall_at halls h)

-- where a node stands: it is a root with a live trail, or its trail is that of its parent or grew
-- on it
pub record IsTold {V : Type 0} (M : Monoid V) (T : Tree V) (e : Entry V) : Type 0 where
  pub state : IsStateOf T.halls e.state
  pub live : IfSome e.trail (IsLive T.region)
  pub values : AreOfValues M (phases_to T.region e.trail)
  pub parent_upto : e.parent ≤ length T.entries.items
  pub next : 1 ≤ e.parent → IsNext T.region (entry_at M.unit T.entries.items e.parent).trail e.trail

-- its own phases: all of its trail at a root, which can be counted in 32 bits, else those beyond
-- its parent's
pub record IsWrittenOwn {V : Type 0} (unit : V) (word_of : V → Word) (T : Tree V) (e : Entry V)
    (own : List (PhaseOf Word)) : Type 0 where
  pub root : e.parent ≡ 0 → own ≡ map (worded word_of) (phases_to T.region e.trail)
  pub root_fits : e.parent ≡ 0 → length own < 2 ^ 32
  pub below : 1 ≤ e.parent → AreOwn word_of T.region (entry_at unit T.entries.items e.parent).trail e.trail own

pub record IsWrittenNode {V : Type 0} (unit : V) (word_of : V → Word) (T : Tree V) (e : Entry V) (node : Node)
    : Type 0 where
  pub parent_is : node.parent ≡ e.parent
  pub branch_is : node.branch ≡ e.branch
  pub mark_is : IsWrittenMark T.halls e.state node.mark
  pub own_are : IsWrittenOwn unit word_of T e node.own

-- a node of the tree was put behind others
pub record PushesNode {V : Type 0} (unit : V) (word_of : V → Word) (T : Tree V) (e : Entry V)
    (before after : List Node) : Type 0 where
  pub node : Node
  pub pushed : after ≡ before ++ node ∷ []
  pub written : IsWrittenNode unit word_of T e node
  pub part : IsNodePart node

-- the nodes are those of the tree in order
pub record AreWrittenNodes {V : Type 0} (unit : V) (word_of : V → Word) (T : Tree V) (nodes : List Node) : Type 0 where
  pub count : length nodes ≡ length T.entries.items
  pub each : (n : ℕ) → 1 ≤ n → n ≤ length nodes
      → IsWrittenNode unit word_of T (entry_at unit T.entries.items n) (node_at nodes n)
