-- The two ends of a ranking.
use Rattle.std.specs.Prelude.{◌≡◌, ℕ, List, Option, length}
use Rattle.asg_model.specs.declared.objectives.Objective.{Objective}
use Rattle.asg_model.specs.declared.objectives.Value.{Value}
use Rattle.asg_model.specs.Problem.{Problem}
use Rattle.asg_model.specs.Values.{choice_value}
use Rattle.asg_rankings.specs.Nodes.{answer_at}
use Rattle.asg_rankings.specs.Ranked.{IsRanking}
use Rattle.asg_rankings.specs.SearchTrees.{last_answer}

-- so many answers, of which the first and the last have these values
pub record HasEnds (objective : Objective) (X : Problem) (answers : ℕ) (first last : Value)
    (choices : List (List (Option ℕ))) : Type 0 where
  pub many : length choices ≡ answers
  pub first_value : choice_value objective X (answer_at choices 1) ≡ first
  pub last_value : choice_value objective X (last_answer choices) ≡ last

-- the rankings of so many choices have these ends: there is one, and each has them
pub record AreRankedEnds (objective : Objective) (X : Problem) (count answers : ℕ)
    (first last : Value) : Type 0 where
  pub choices : List (List (Option ℕ))
  pub ranking : IsRanking objective X count choices
  pub each : (others : List (List (Option ℕ))) → IsRanking objective X count others
      → HasEnds objective X answers first last others
