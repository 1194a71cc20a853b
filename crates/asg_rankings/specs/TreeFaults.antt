-- What stands against the nodes of a tree.
use Rattle.std.specs.Prelude.{◌≡◌, ℕ, ◌≤◌, List, Option, length}
use Rattle.asg_model.specs.declared.parts.Cost.{Cost}
use Rattle.asg_model.specs.Problem.{Problem}
use Rattle.asg_order.specs.declared.words.Word.{Word}
use Rattle.asg_order.specs.Monoid.{Monoid}
use Rattle.asg_rankings.specs.declared.nodes.Mark.TheVariants.{Open}
use Rattle.asg_rankings.specs.declared.nodes.Node.{Node}
use Rattle.asg_rankings.specs.Nodes.{node_at, IsNumber}
use Rattle.asg_rankings.specs.SearchTrees.{IsSoundNode, MayStayOpen, IsGiven}

-- node number n is at fault: it isn't as it must be
pub record IsAtFault {V : Type 0} (M : Monoid V) (difference : V → V → V) (word_of : V → Word)
    (enter : Cost → V) (X : Problem) (answers : List (List (Option ℕ))) (nodes : List Node) (n : ℕ)
    : Type 0 where
  pub there : IsNumber nodes n
  pub fault : ¬ IsSoundNode M difference word_of enter X answers nodes n

-- some answer has no node
pub record LacksNode (answers : List (List (Option ℕ))) (nodes : List Node) : Type 0 where
  pub number : ℕ
  pub from : 1 ≤ number
  pub upto : number ≤ length answers
  pub none : ¬ IsGiven nodes number

-- node number n is open and may not be
pub record IsLeftOpen {V : Type 0} (M : Monoid V) (difference : V → V → V) (word_of : V → Word)
    (enter : Cost → V) (X : Problem) (count : ℕ) (answers : List (List (Option ℕ))) (nodes : List Node)
    (n : ℕ) : Type 0 where
  pub there : IsNumber nodes n
  pub marked : (node_at nodes n).mark ≡ Open
  pub may_not : ¬ MayStayOpen M difference word_of enter X count answers nodes n
