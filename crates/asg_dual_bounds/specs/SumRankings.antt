use Rattle.std.specs.Prelude.{◌≡◌, ◌≢◌, ℕ, ◌+◌, ◌-◌, ◌<◌, ◌≤◌, List, [], length, slice_index_or, All, AllPairs, Contains}
use Rattle.asg_model.specs.declared.objectives.Objective.{Objective}
use Rattle.asg_model.specs.Problem.{Problem}
use Rattle.asg_dual_bounds.specs.Numbers.{sum_at, IsAnswer}

-- the sum of the answer at index a
abbrev pub sum_of_answer : Objective → Problem → List (List ℕ) → ℕ → ℕ
sum_of_answer objective X answers a = sum_at objective X (slice_index_or answers a [])

-- different answers with ascending sums, at least one and at most as many as were asked for; where
-- as many are listed, each other answer has at least the last one's sum; where fewer are, each
-- answer is listed
pub record IsSumRanking (objective : Objective) (X : Problem) (count : ℕ) (answers : List (List ℕ))
    : Type 0 where
  pub some : 1 ≤ length answers
  pub few : length answers ≤ count
  pub valid : All (IsAnswer objective X) answers
  pub different : AllPairs ◌≢◌ answers
  pub ascending : (a : ℕ) → a + 1 < length answers
      → sum_of_answer objective X answers a ≤ sum_of_answer objective X answers (a + 1)
  pub none_less : length answers ≡ count → (f : List ℕ) → IsAnswer objective X f
      → ¬ Contains answers f
      → sum_of_answer objective X answers (length answers - 1) ≤ sum_at objective X f
  pub whole : length answers < count → (f : List ℕ) → IsAnswer objective X f → Contains answers f
