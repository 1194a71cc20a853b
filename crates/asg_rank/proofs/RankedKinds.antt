-- What a ranking in the monoid of a kind gives is what a ranking by its objective gives.
use Rattle.asg_rank.proofs.Common.{◌≡◌, ℕ, ◌-◌, ◌^◌, ◌≤◌, true, List, [], length, IsTrue, All, Option, subst, arith, IsInstance, Problem, PassesNegative, IsValid, Objective, Sum, SumMax, SumPair, Capped, Bottleneck, BottleneckMax, TimeCost, Cost, bounded_sums, bounded_difference, narrow_top, plain_word, cost_reach, is_sum_objective, peak_entered, sum_entered, time_entered, top_of, graded, graded_difference, graded_word, maxima, maxima_difference, Monoid, Word, lies_within, IsOutcomeIn, IsRankOutcome, IsSearchTree, last_answer, Node}
use Rattle.asg_model.specs.Objectives.{is_bottleneck}
use Rattle.asg_monoids.specs.NarrowObjectives.{is_narrow_objective}
use Rattle.asg_monoids.specs.laws.NarrowOrders.{narrow_product}
use Rattle.asg_rankings.specs.TreeProofs.{IsPeakTree, IsSumTree, ProvesRanking}
use Rattle.asg_rank.specs.declared.rankings.RankOutcome.{RankOutcome}
use Rattle.asg_rank.specs.declared.rankings.RankOutcome.TheVariants.{Listed, Nothing}
use Rattle.asg_rankings.proofs.TreeTops.{IsSearchTree-by_top}

-- search trees of valid answers prove rankings by the objective
abbrev TreesProve : {V : Type 0} → Monoid V → (V → V → V) → (V → Word) → (Cost → V) → Objective → Problem → ℕ → Type 0
TreesProve M difference word_of enter objective X count =
    (answers : List (List (Option ℕ))) (nodes : List Node) → 1 ≤ length answers → All (IsValid X) answers
    → IsSearchTree M difference word_of enter X count answers nodes → ProvesRanking objective X count answers nodes

-- then an outcome in the monoid is one of the objective
outcome_by : {V : Type 0} (M : Monoid V) (difference : V → V → V) (word_of : V → Word) (enter : Cost → V) (objective : Objective) (X : Problem) (count : ℕ) → TreesProve M difference word_of enter objective X count
    → (outcome : RankOutcome) → IsOutcomeIn M difference word_of enter objective X count outcome → IsRankOutcome objective X count outcome
outcome_by M difference word_of enter objective X count prove (Listed answers nodes) ranked = record {
  listed = ranked.listed;
  valid = ranked.valid;
  proved = prove answers nodes ranked.listed.some ranked.valid ranked.tree;
  phases = ranked.phases;
  last_open = ranked.last_open;
  countable = ranked.countable;
}
outcome_by M difference word_of enter objective X count prove (Nothing rows) hall = hall

sums_prove : (objective : Objective) (X : Problem) (count : ℕ) (answers : List (List (Option ℕ))) (nodes : List Node) → is_sum_objective objective ≡ true → IsSumTree objective X count answers nodes → ProvesRanking objective X count answers nodes
sums_prove Sum X count answers nodes is tree = tree
sums_prove SumMax X count answers nodes is tree = tree
sums_prove SumPair X count answers nodes is tree = tree
sums_prove (Capped cap) X count answers nodes is tree = tree
sums_prove _ X count answers nodes is tree = absurd (cc)

peaks_prove : (objective : Objective) (X : Problem) (count : ℕ) (answers : List (List (Option ℕ))) (nodes : List Node) → is_bottleneck objective ≡ true → IsPeakTree objective X count answers nodes → ProvesRanking objective X count answers nodes
peaks_prove Bottleneck X count answers nodes is tree = tree
peaks_prove BottleneckMax X count answers nodes is tree = tree
peaks_prove _ X count answers nodes is tree = absurd (cc)

wide_sums_prove : (objective : Objective) (X : Problem) (count : ℕ) (answers : List (List (Option ℕ))) (nodes : List Node) → is_narrow_objective objective ≡ true → IsSearchTree (bounded_sums (2 ^ 120)) bounded_difference plain_word (sum_entered objective) X count answers nodes
    → ProvesRanking objective X count answers nodes
wide_sums_prove Sum X count answers nodes is tree = tree
wide_sums_prove SumMax X count answers nodes is tree = tree
wide_sums_prove _ X count answers nodes is tree = absurd (cc)

-- the kind of sums in 64 bits
pub narrow_outcome : (objective : Objective) → IsTrue (is_narrow_objective objective) → (X : Problem) → IsInstance X → PassesNegative objective X → (count : ℕ) (outcome : RankOutcome) → IsOutcomeIn (bounded_sums narrow_top) bounded_difference plain_word (sum_entered objective) objective X count outcome
    → IsRankOutcome objective X count outcome
narrow_outcome objective is X instance passes count =
    outcome_by (bounded_sums narrow_top) bounded_difference plain_word (sum_entered objective) objective X count
    (λ answers nodes some valid tree.
    let last = valid (length answers - 1) [] (omega (arith, some)) in
    wide_sums_prove objective X count answers nodes is
    (IsSearchTree-by_top narrow_top (2 ^ 120) (omega arith) plain_word (sum_entered objective) X count answers nodes
    (narrow_product objective X (last_answer answers) is instance.well_formed.few_rows (lies_within cost_reach X (omega arith) instance) passes last)
    tree))

-- the kind of sums in 128 bits
pub sum_outcome : (objective : Objective) → IsTrue (is_sum_objective objective) → (top : ℕ) → top ≡ top_of objective → (X : Problem) (count : ℕ) (outcome : RankOutcome) → IsOutcomeIn (bounded_sums top) bounded_difference plain_word (sum_entered objective) objective X count outcome
    → IsRankOutcome objective X count outcome
sum_outcome objective is top stops X count =
    outcome_by (bounded_sums top) bounded_difference plain_word (sum_entered objective) objective X count
    (λ answers nodes some valid tree.
    sums_prove objective X count answers nodes is
    (subst (λ n. IsSearchTree (bounded_sums n) bounded_difference plain_word (sum_entered objective) X count answers nodes) stops tree))

-- the kind of maxima
pub peak_outcome : (objective : Objective) → IsTrue (is_bottleneck objective) → (X : Problem) (count : ℕ) (outcome : RankOutcome) → IsOutcomeIn maxima maxima_difference plain_word (peak_entered objective) objective X count outcome
    → IsRankOutcome objective X count outcome
peak_outcome objective is X count =
    outcome_by maxima maxima_difference plain_word (peak_entered objective) objective X count
    (λ answers nodes some valid tree. peaks_prove objective X count answers nodes is tree)

-- the kind of sums with a grade before them
pub time_outcome : (top : ℕ) → top ≡ 2 ^ 120 → (X : Problem) (count : ℕ) (outcome : RankOutcome) → IsOutcomeIn (graded (bounded_sums top)) (graded_difference (bounded_sums top) bounded_difference) graded_word time_entered TimeCost X count outcome
    → IsRankOutcome TimeCost X count outcome
time_outcome top stops X count =
    outcome_by (graded (bounded_sums top)) (graded_difference (bounded_sums top) bounded_difference) graded_word time_entered TimeCost X count
    (λ answers nodes some valid tree.
    subst (λ n. IsSearchTree (graded (bounded_sums n)) (graded_difference (bounded_sums n) bounded_difference) graded_word time_entered X count answers nodes) stops tree)
