-- What a ranker keeps, and what its next answer is.
use Rattle.std.specs.Prelude.{◌≡◌, ◌⊎◌, ℕ, ◌≤◌, List, length, Option, Contains}
use Rattle.asg_model.specs.declared.objectives.Objective.{Objective}
use Rattle.asg_model.specs.Limits.{most_cost}
use Rattle.asg_model.specs.Problem.{Problem}
use Rattle.asg_model.specs.Refused.{PassesNegative}
use Rattle.asg_model.specs.ValidChoice.{IsValid}
use Rattle.asg_nodes.specs.Rules.{Rules}
use Rattle.asg_branching.specs.declared.searches.Search.{Search}
use Rattle.asg_branching.specs.Expansions.{IsOneMore}
use Rattle.asg_branching.specs.Searches.{IsReady}
use Rattle.asg_rank.specs.declared.ranker.Next.{Next}
use Rattle.asg_rank.specs.declared.ranker.Next.TheVariants.{Answer, Done}
use Rattle.asg_rank.specs.Rooms.{answer_room}

-- what a ranker keeps: it is ready for the next answer, the objective refuses no live cost, the
-- kind reaches all costs, and at least one choice was asked for
pub record IsRanker {V : Type 0} (R : Rules V) (objective : Objective) (reach : ℕ) (X : Problem) (count : ℕ)
    (S : Search V) : Type 0 where
  pub ready : IsReady R X (answer_room X count) S
  pub passes : PassesNegative objective X
  pub reaches : most_cost ≤ reach
  pub some : 1 ≤ count

-- what the next answer is, where there is room for so many
abbrev pub GivesLeast : {V : Type 0} → Rules V → Problem → ℕ → List (List (Option ℕ))
    → List (List (Option ℕ)) → Next → Type 0
GivesLeast R X room before after (Answer number) =
    (number ≡ length after) × (length after ≤ room) × IsOneMore R X before after
GivesLeast R X room before after Done =
    (after ≡ before) × ((length before ≡ room) ⊎ ((g : List (Option ℕ)) → IsValid X g → Contains before g))
