-- A tree that is judged: the monoid, the instance, the answers, of which so many were asked for, and
-- the nodes.
use Rattle.std.specs.Prelude.{◌≡◌, ℕ, ◌<◌, ◌≤◌, Option, Some, None, List, All, length}
use Rattle.asg_model.specs.declared.parts.Cost.{Cost}
use Rattle.asg_model.specs.declared.parts.Place.TheVariants.{All as PlaceAll}
use Rattle.asg_model.specs.Instances.{IsInstance}
use Rattle.asg_model.specs.Limits.{most_side}
use Rattle.asg_model.specs.Problem.{Problem}
use Rattle.asg_model.specs.Shapes.{square_side}
use Rattle.asg_model.specs.ValidChoice.{IsValid}
use Rattle.asg_order.specs.declared.words.Word.{Word}
use Rattle.asg_order.specs.Bridge.{choice_fold}
use Rattle.asg_order.specs.Monoid.{Monoid, IsValue}
use Rattle.asg_rankings.specs.declared.nodes.Mark.TheVariants.{Open}
use Rattle.asg_rankings.specs.declared.nodes.Node.{Node}
use Rattle.asg_rankings.specs.Nodes.{node_at, node_instance}
use Rattle.asg_proof.specs.PhaseProofs.{EntersValues}
use Rattle.asg_rankings.specs.SearchTrees.{IsSoundNode, MayStayOpen, last_answer}
use Rattle.asg_trees.specs.declared.judged_trees.Tree.{Tree}
use Rattle.asg_trees.specs.Groups.{AreGroups, answer_keys, parent_keys}

-- what a tree is judged by
pub record TreeOf (V : Type 0) : Type 0 where
  pub monoid : Monoid V
  pub difference : V → V → V
  pub word_of : V → Word
  pub enter : Cost → V
  pub problem : Problem
  pub count : ℕ
  pub answers : List (List (Option ℕ))
  pub nodes : List Node

-- what a tree is judged by, by what a kind and its monoid are seen as
abbrev pub tree_by : {K A V : Type 0} → (A → Monoid V) → (A → V → V → V) → (A → V → Word) → (K → A)
    → (K → Cost → V) → K → Tree V → TreeOf V
tree_by monoid_of difference word_of monoid entered kind tree = record {
  monoid = monoid_of (monoid kind);
  difference = difference (monoid kind);
  word_of = word_of (monoid kind);
  enter = entered kind;
  problem = tree.inst.now;
  count = tree.count;
  answers = tree.answers.now;
  nodes = tree.nodes.now;
}

-- the product of the last answer, where as many answers are listed as were asked for
pub record IsLastProduct {V : Type 0} (M : Monoid V) (enter : Cost → V) (X : Problem) (count : ℕ)
    (answers : List (List (Option ℕ))) (last : Option V) : Type 0 where
  pub fewer : last ≡ None → length answers < count
  pub full : (z : V) → last ≡ Some z → count ≤ length answers
  pub product : (z : V) → last ≡ Some z → z ≡ choice_fold M enter X (last_answer answers)
  pub is_value : (z : V) → last ≡ Some z → IsValue M z

-- what is known of a tree that is judged: its instance places all rows, on a square that isn't too
-- large, its live costs enter as values, and its answers are valid; its nodes are grouped by the
-- parents that they name and by their answers, and the product of the last answer is found
pub record IsReady {V : Type 0} (T : TreeOf V) (tree : Tree V) : Type 0 where
  pub instance : IsInstance T.problem
  pub all_placed : T.problem.place ≡ PlaceAll
  pub few : square_side T.problem ≤ most_side
  pub enters : EntersValues T.monoid T.enter T.problem
  pub valid : All (IsValid T.problem) T.answers
  pub members : AreGroups (parent_keys T.nodes) (length T.nodes) tree.members.now
  pub given : AreGroups (answer_keys T.nodes) (length T.answers) tree.given.now
  pub last : IsLastProduct T.monoid T.enter T.problem T.count T.answers tree.last

-- the instance of a node
abbrev pub instance_at : {V : Type 0} → TreeOf V → ℕ → Problem
instance_at T n = node_instance T.problem T.answers T.nodes n

-- a node is as it must be
abbrev pub IsSound : {V : Type 0} → TreeOf V → ℕ → Type 0
IsSound T n = IsSoundNode T.monoid T.difference T.word_of T.enter T.problem T.answers T.nodes n

-- a node that is open may be
abbrev pub MayBeOpen : {V : Type 0} → TreeOf V → ℕ → Type 0
MayBeOpen T n =
    (node_at T.nodes n).mark ≡ Open
    → MayStayOpen T.monoid T.difference T.word_of T.enter T.problem T.count T.answers T.nodes n

-- a node is open and may not be
abbrev pub IsOpenWrongly : {V : Type 0} → TreeOf V → ℕ → Type 0
IsOpenWrongly T n =
    ((node_at T.nodes n).mark ≡ Open)
    × ¬ MayStayOpen T.monoid T.difference T.word_of T.enter T.problem T.count T.answers T.nodes n
