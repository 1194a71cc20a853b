-- What stands against a ranking: cells of no valid choice, other values, answers that are repeated
-- or out of order, and nodes that aren't a search tree of them.
use Rattle.std.specs.Prelude.{◌≡◌, ◌⊎◌, ℕ, suc, ◌<◌, pos, List, Option, Some, slice_get}
use Rattle.asg_model.specs.declared.objectives.Objective.{Objective}
use Rattle.asg_model.specs.Better.{IsBetter}
use Rattle.asg_model.specs.Problem.{Problem}
use Rattle.asg_monoids.specs.ObjectiveMonoids.{InMonoidOf}
use Rattle.asg_rankings.specs.declared.nodes.Node.{Node}
use Rattle.asg_rankings.specs.TreeFaults.{IsAtFault, IsLeftOpen, LacksNode}
use Rattle.asg_doc.specs.declared.documents.Answer.{Answer}
use Rattle.asg_verdicts.specs.declared.verdicts.Reason.{Reason}
use Rattle.asg_verdicts.specs.declared.verdicts.Reason.TheVariants.{BadNode, BetterLeft}
use Rattle.asg_verdicts.specs.Spots.{Spot, At, Overall}
use Rattle.asg_check.specs.Written.{HasWrongValue, SpellNone}

-- the answer at this place of the list is there, and no valid choice has its cells
pub record IsNoChoiceAt (X : Problem) (answers : List Answer) (n : ℕ) : Type 0 where
  pub answer : Answer
  pub there : slice_get answers n ≡ Some answer
  pub none : SpellNone X answer.cells

-- the answer at this place of the list is there, and has another value than its choice
pub record IsWrongValueAt (objective : Objective) (X : Problem) (answers : List Answer) (n : ℕ)
    : Type 0 where
  pub answer : Answer
  pub there : slice_get answers n ≡ Some answer
  pub wrong : HasWrongValue objective X answer

-- the answer at this place of the list is there, and spells no choice, or has another value than its
-- choice
abbrev pub IsAmissAt : Objective → Problem → List Answer → ℕ → Type 0
IsAmissAt objective X answers n = IsNoChoiceAt X answers n ⊎ IsWrongValueAt objective X answers n

-- the answer at this place of the list is there, and has the cells of an earlier one
pub record IsRepeatedAt (answers : List Answer) (n : ℕ) : Type 0 where
  pub answer : Answer
  pub there : slice_get answers n ≡ Some answer
  pub place : ℕ
  pub before : place < n
  pub earlier : Answer
  pub earlier_there : slice_get answers place ≡ Some earlier
  pub same : earlier.cells ≡ answer.cells

-- the answer at this place of the list is there, and is better than the one before it
pub record IsOutOfOrderAt (objective : Objective) (answers : List Answer) (n : ℕ) : Type 0 where
  pub answer : Answer
  pub there : slice_get answers n ≡ Some answer
  pub place : ℕ
  pub before : suc place ≡ n
  pub earlier : Answer
  pub earlier_there : slice_get answers place ≡ Some earlier
  pub better : IsBetter objective answer.value earlier.value

-- where nodes are bad for the choices of answers: at each that is at fault, by its number; and for
-- the whole, where some answer has no node
abbrev pub AreBadNodesAt : Objective → Problem → List (List (Option ℕ)) → List Node → Spot → Type 0
AreBadNodesAt objective X choices nodes (At place) =
    (n : ℕ) × (place ≡ pos n)
    × InMonoidOf objective
    (λ V M difference word_of enter. IsAtFault M difference word_of enter X choices nodes n)
AreBadNodesAt objective X choices nodes Overall = LacksNode choices nodes

-- where nodes leave choices that are better than the answers, where so many were asked for: at each
-- that is open and may not be, by its number
abbrev pub LeaveBetterAt : Objective → Problem → ℕ → List (List (Option ℕ)) → List Node → Spot → Type 0
LeaveBetterAt objective X count choices nodes (At place) =
    (n : ℕ) × (place ≡ pos n)
    × InMonoidOf objective
    (λ V M difference word_of enter. IsLeftOpen M difference word_of enter X count choices nodes n)
LeaveBetterAt objective X count choices nodes Overall = ⊥

-- what stands against nodes for the choices of answers
abbrev pub NodesStand : Objective → Problem → ℕ → List (List (Option ℕ)) → List Node → Reason
    → Spot → Type 0
NodesStand objective X count choices nodes BadNode = AreBadNodesAt objective X choices nodes
NodesStand objective X count choices nodes BetterLeft =
    LeaveBetterAt objective X count choices nodes
NodesStand objective X count choices nodes reason = λ spot. ⊥
