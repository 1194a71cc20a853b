-- What the ranking of an instance gives.
use Rattle.std.specs.Prelude.{ℕ, All, List, Option}
use Rattle.asg_model.specs.declared.bands.Band.TheVariants.{Whole}
use Rattle.asg_model.specs.declared.objectives.Objective.{Objective}
use Rattle.asg_model.specs.HallSet.{IsHall}
use Rattle.asg_model.specs.Problem.{Problem}
use Rattle.asg_model.specs.Shapes.{square_side}
use Rattle.asg_model.specs.ValidChoice.{IsValid}
use Rattle.asg_model.specs.declared.parts.Cost.{Cost}
use Rattle.asg_order.specs.declared.words.Word.{Word}
use Rattle.asg_order.specs.Monoid.{Monoid}
use Rattle.asg_rankings.specs.declared.nodes.Node.{Node}
use Rattle.asg_rankings.specs.Ranked.{AreListed}
use Rattle.asg_rankings.specs.SearchTrees.{IsSearchTree}
use Rattle.asg_rankings.specs.TreeProofs.{ProvesRanking}
use Rattle.asg_rank.specs.declared.rankings.RankOutcome.{RankOutcome}
use Rattle.asg_rank.specs.declared.rankings.RankOutcome.TheVariants.{Listed, Nothing}
use Rattle.asg_rank.specs.Rankings.{AreCountable, HaveFewPhases, LeaveLastOpen}

-- valid choices that may be listed, and nodes that prove that nothing better was left out, with few
-- phases
pub record IsProvedRanking (objective : Objective) (X : Problem) (count : ℕ)
    (answers : List (List (Option ℕ))) (nodes : List Node) : Type 0 where
  pub listed : AreListed objective X count answers
  pub valid : All (IsValid X) answers
  pub proved : ProvesRanking objective X count answers nodes
  pub phases : HaveFewPhases (square_side X) nodes
  pub last_open : LeaveLastOpen count answers nodes
  pub countable : AreCountable nodes

-- what a ranking gives: the first so many choices with their nodes, or a Hall set of the whole
-- instance
abbrev pub IsRankOutcome : Objective → Problem → ℕ → RankOutcome → Type 0
IsRankOutcome objective X count (Listed answers nodes) =
    IsProvedRanking objective X count answers nodes
IsRankOutcome objective X count (Nothing rows) = IsHall X Whole rows

-- the same over a monoid, in which the nodes are a search tree
pub record IsRankingIn {V : Type 0} (M : Monoid V) (difference : V → V → V) (word_of : V → Word)
    (enter : Cost → V) (objective : Objective) (X : Problem) (count : ℕ)
    (answers : List (List (Option ℕ))) (nodes : List Node) : Type 0 where
  pub listed : AreListed objective X count answers
  pub valid : All (IsValid X) answers
  pub tree : IsSearchTree M difference word_of enter X count answers nodes
  pub phases : HaveFewPhases (square_side X) nodes
  pub last_open : LeaveLastOpen count answers nodes
  pub countable : AreCountable nodes

abbrev pub IsOutcomeIn : {V : Type 0} → Monoid V → (V → V → V) → (V → Word) → (Cost → V)
    → Objective → Problem → ℕ → RankOutcome → Type 0
IsOutcomeIn M difference word_of enter objective X count (Listed answers nodes) =
    IsRankingIn M difference word_of enter objective X count answers nodes
IsOutcomeIn M difference word_of enter objective X count (Nothing rows) = IsHall X Whole rows
