-- What is found of a tree: the least node at fault, an answer without a node, the least node that
-- is open and may not be, or that it is a search tree.
use Rattle.std.specs.Prelude.{ℕ, ◌<◌, ◌≤◌, nat_le, if◌then◌else◌, Option, Some, None, List, length}
use Rattle.asg_model.specs.declared.objectives.Objective.{Objective}
use Rattle.asg_model.specs.declared.parts.Cost.{Cost}
use Rattle.asg_model.specs.Problem.{Problem}
use Rattle.asg_monoids.specs.ObjectiveMonoids.{InMonoidOf}
use Rattle.asg_order.specs.declared.words.Word.{Word}
use Rattle.asg_order.specs.Monoid.{Monoid}
use Rattle.asg_rankings.specs.declared.nodes.Node.{Node}
use Rattle.asg_rankings.specs.Nodes.{IsNumber}
use Rattle.asg_rankings.specs.SearchTrees.{IsSoundNode, IsGiven, IsSearchTree}
use Rattle.asg_rankings.specs.TreeFaults.{IsAtFault, LacksNode, IsLeftOpen}
use Rattle.asg_trees.specs.declared.verdicts.Tally.{Tally}
use Rattle.asg_trees.specs.declared.verdicts.TreeVerdict.{TreeVerdict}
use Rattle.asg_trees.specs.declared.verdicts.TreeVerdict.TheVariants.{Tree, FaultAt, NodeLacks, OpenAt}

-- each node is as it must be
abbrev pub AreSound : {V : Type 0} → Monoid V → (V → V → V) → (V → Word) → (Cost → V) → Problem
    → List (List (Option ℕ)) → List Node → Type 0
AreSound M difference word_of enter X answers nodes =
    (n : ℕ) → IsNumber nodes n → IsSoundNode M difference word_of enter X answers nodes n

-- each answer has a node
abbrev pub AreGiven : List (List (Option ℕ)) → List Node → Type 0
AreGiven answers nodes = (a : ℕ) → 1 ≤ a → a ≤ length answers → IsGiven nodes a

-- a verdict tells exactly what is the matter with nodes: the least one that is at fault; where none
-- is, whether some answer has no node; where each has one, the least node that is open and may not
-- be; and where none is, that they are a search tree
abbrev pub TellsTree : {V : Type 0} → Monoid V → (V → V → V) → (V → Word) → (Cost → V) → Problem → ℕ
    → List (List (Option ℕ)) → List Node → TreeVerdict → Type 0
TellsTree M difference word_of enter X count answers nodes (FaultAt n) =
    IsAtFault M difference word_of enter X answers nodes n
    × ((m : ℕ) → m < n → ¬ IsAtFault M difference word_of enter X answers nodes m)
TellsTree M difference word_of enter X count answers nodes NodeLacks =
    AreSound M difference word_of enter X answers nodes × LacksNode answers nodes
TellsTree M difference word_of enter X count answers nodes (OpenAt n) =
    AreSound M difference word_of enter X answers nodes × AreGiven answers nodes
    × IsLeftOpen M difference word_of enter X count answers nodes n
    × ((m : ℕ) → m < n → ¬ IsLeftOpen M difference word_of enter X count answers nodes m)
TellsTree M difference word_of enter X count answers nodes Tree =
    IsSearchTree M difference word_of enter X count answers nodes

-- the same in the monoid of an algebraic objective
abbrev pub TellsRanking : Objective → Problem → ℕ → List (List (Option ℕ)) → List Node → TreeVerdict → Type 0
TellsRanking objective X count answers nodes verdict =
    InMonoidOf objective
    (λ V M difference word_of enter. TellsTree M difference word_of enter X count answers nodes verdict)

-- an answer that has no node
pub record IsLacking (answers : List (List (Option ℕ))) (nodes : List Node) (a : ℕ) : Type 0 where
  pub from : 1 ≤ a
  pub upto : a ≤ length answers
  pub none : ¬ IsGiven nodes a

-- the verdict on a tree of so many nodes, none of which is at fault, by an answer that has no node,
-- if there is one, and by the least node that is open and may not be
abbrev pub conclusion_sound : ℕ → ℕ → Option ℕ → TreeVerdict
conclusion_sound left nodes (Some a) = NodeLacks
conclusion_sound left nodes None = if nat_le left nodes then OpenAt left else Tree

-- the verdict on a tree by its whole tally
abbrev pub conclusion : Tally → ℕ → Option ℕ → TreeVerdict
conclusion tally nodes lacking =
    if nat_le tally.fault nodes then FaultAt tally.fault else conclusion_sound tally.left nodes lacking
