-- The first and the last answer of a ranking.
use Rattle.std.specs.Prelude.{◌≡◌, ℕ, Option, List, length}
use Rattle.asg_model.specs.declared.objectives.Objective.{Objective}
use Rattle.asg_model.specs.Problem.{Problem}
use Rattle.asg_rankings.specs.Nodes.{answer_at}
use Rattle.asg_rankings.specs.Ranked.{IsRanking}
use Rattle.asg_rankings.specs.SearchTrees.{last_answer}

-- these choices are the first and the last of a ranking of as many as were asked for
pub record AreEnds (objective : Objective) (X : Problem) (count : ℕ) (first last : List (Option ℕ))
    : Type 0 where
  pub choices : List (List (Option ℕ))
  pub ranking : IsRanking objective X count choices
  pub many : count ≡ length choices
  pub first_one : first ≡ answer_at choices 1
  pub last_one : last ≡ last_answer choices
