-- Outcomes by sums in 64 bits are outcomes of `sum` and `sum-max`.
use Rattle.asg_objectives.proofs.Common.{◌≡◌, ℕ, ◌^◌, ◌<◌, ◌≤◌, true, List, length, is_some, All, Option, sym, arith, count_by-le-length, IsInstance, Problem, PassesNegative, IsValid, costs_of, Objective, Sum, SumMax, Cost, bounded_sums, bounded_difference, plain_word, narrow_top, cost_reach, sum_entered, IsFoldOutcome, costs_fold, MayEnter, Word, ProvesFold, ProvesPhases, IsOutcome, PhaseOf, Outcome, lies_within}
use Rattle.asg_model.specs.Limits.{most_rows}
use Rattle.asg_order.specs.laws.ChosenCosts.{costs_may_enter, length-costs_of}
use Rattle.asg_monoids.specs.NarrowObjectives.{is_narrow_objective}
use Rattle.asg_proof.proofs.Tops.{ProvesFold-by_top}
use Rattle.asg_objectives.proofs.KindOutcomes.{IsOutcome-from_fold}

-- sums of so few entered costs are the same by both tops, and below the lesser one
abbrev pub FoldsNarrow : Objective → Type 0
FoldsNarrow objective =
    (u : List Cost) → length u ≤ most_rows → All (MayEnter objective cost_reach) u
    → (costs_fold (bounded_sums narrow_top) (sum_entered objective) u ≡ costs_fold (bounded_sums (2 ^ 120)) (sum_entered objective) u)
    × (costs_fold (bounded_sums narrow_top) (sum_entered objective) u < narrow_top)

folds_narrow : (objective : Objective) → is_narrow_objective objective ≡ true → FoldsNarrow Sum → FoldsNarrow SumMax → FoldsNarrow objective
folds_narrow Sum is sum sum_max = sum
folds_narrow SumMax is sum sum_max = sum_max
folds_narrow _ is sum sum_max = absurd (cc)

-- their sums stop at 2^120
from_wide : (objective : Objective) → is_narrow_objective objective ≡ true → (X : Problem) (choice : List (Option ℕ)) (words : List (PhaseOf Word)) → ProvesFold (bounded_sums (2 ^ 120)) bounded_difference plain_word (sum_entered objective) X choice words → ProvesPhases objective X choice words
from_wide Sum is X choice words proof = proof
from_wide SumMax is X choice words proof = proof
from_wide _ is X choice words proof = absurd (cc)

-- a valid choice has few costs
few_costs : (X : Problem) → IsInstance X → (choice : List (Option ℕ)) → IsValid X choice → length (costs_of X choice) ≤ most_rows
few_costs X instance choice valid =
    omega (arith, length-costs_of X choice valid, valid.counted, valid.over, count_by-le-length is_some choice, instance.well_formed.few_rows)

-- what is proved by sums in 64 bits is proved by those that stop at the top of the objective
pub IsOutcome-narrow : (objective : Objective) → is_narrow_objective objective ≡ true → FoldsNarrow Sum → FoldsNarrow SumMax → (X : Problem) → IsInstance X → PassesNegative objective X → (outcome : Outcome) → IsFoldOutcome (bounded_sums narrow_top) bounded_difference plain_word (sum_entered objective) X outcome → IsOutcome objective X outcome
IsOutcome-narrow objective is sum sum_max X instance passes outcome by =
    IsOutcome-from_fold (bounded_sums narrow_top) bounded_difference plain_word (sum_entered objective) objective X proves outcome by
  where
    proves : (choice : List (Option ℕ)) (words : List (PhaseOf Word)) → IsValid X choice → ProvesFold (bounded_sums narrow_top) bounded_difference plain_word (sum_entered objective) X choice words → ProvesPhases objective X choice words
    proves choice words valid proof =
        let may = costs_may_enter objective cost_reach X choice (lies_within cost_reach X (omega arith) instance) passes in
        let folds = folds_narrow objective is sum sum_max (costs_of X choice) (few_costs X instance choice valid) may in
        from_wide objective is X choice words
        (ProvesFold-by_top narrow_top (2 ^ 120) plain_word (sum_entered objective) X choice words (omega arith) folds.1 (sym folds.0) proof)
