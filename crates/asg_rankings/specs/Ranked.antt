-- Rankings: what ranked answers claim.
use Rattle.std.specs.Prelude.{◌≡◌, ◌≢◌, ℕ, ◌+◌, ◌<◌, ◌≤◌, Option, List, length, All, AllPairs, Contains}
use Rattle.asg_model.specs.declared.objectives.Objective.{Objective}
use Rattle.asg_model.specs.Better.{IsBetter}
use Rattle.asg_model.specs.Problem.{Problem}
use Rattle.asg_model.specs.ValidChoice.{IsValid}
use Rattle.asg_model.specs.Values.{choice_value}
use Rattle.asg_rankings.specs.Nodes.{answer_at}
use Rattle.asg_rankings.specs.SearchTrees.{last_answer}

-- of an instance's choices f is better than g
abbrev pub IsBetterChoice : Objective → Problem → List (Option ℕ) → List (Option ℕ) → Type 0
IsBetterChoice objective X f g = IsBetter objective (choice_value objective X f) (choice_value objective X g)

-- answers that may be listed: at least one, at most as many as were asked for, different, and none
-- better than the one before it
pub record AreListed (objective : Objective) (X : Problem) (count : ℕ) (answers : List (List (Option ℕ)))
    : Type 0 where
  pub some : 1 ≤ length answers
  pub few : length answers ≤ count
  pub different : AllPairs ◌≢◌ answers
  pub in_order : (a : ℕ) → 1 ≤ a → a < length answers
      → ¬ IsBetterChoice objective X (answer_at answers (a + 1)) (answer_at answers a)

-- a ranking of the valid choices: answers that may be listed, all valid; where as many are listed
-- as were asked for, no valid choice that isn't listed is better than the last; where fewer are,
-- each valid choice is listed
pub record IsRanking (objective : Objective) (X : Problem) (count : ℕ) (answers : List (List (Option ℕ)))
    : Type 0 where
  pub listed : AreListed objective X count answers
  pub valid : All (IsValid X) answers
  pub none_better : length answers ≡ count → (g : List (Option ℕ)) → IsValid X g → ¬ Contains answers g
      → ¬ IsBetterChoice objective X g (last_answer answers)
  pub whole : length answers < count → (g : List (Option ℕ)) → IsValid X g → Contains answers g

-- answer a is best among the valid choices that no answer before it gave
pub record IsNextBest (objective : Objective) (X : Problem) (answers : List (List (Option ℕ))) (a : ℕ)
    : Type 0 where
  pub valid : IsValid X (answer_at answers a)
  pub apart : (b : ℕ) → 1 ≤ b → b < a → answer_at answers b ≢ answer_at answers a
  pub none_better : (g : List (Option ℕ)) → IsValid X g
      → ((b : ℕ) → 1 ≤ b → b < a → answer_at answers b ≢ g)
      → ¬ IsBetterChoice objective X g (answer_at answers a)
