-- Search trees by sums in 64 bits are search trees of `sum` and `sum-max`.
use Rattle.asg_trees.proofs.Common.{◌≡◌, ℕ, ◌-◌, ◌^◌, ◌≤◌, true, List, [], length, All, Option, arith, All-get_or, IsInstance, Problem, IsValid, bounded_sums, bounded_difference, plain_word, narrow_top, cost_reach, sum_entered, choice_fold, lies_within, IsSearchTree, last_answer, Node, TellsRanking, Tree}
use Rattle.asg_model.specs.declared.objectives.Objective.{Objective}
use Rattle.asg_model.specs.declared.objectives.Objective.TheVariants.{Sum, SumMax}
use Rattle.asg_model.specs.Refused.{PassesNegative}
use Rattle.asg_monoids.specs.NarrowObjectives.{is_narrow_objective}
use Rattle.asg_monoids.specs.laws.NarrowOrders.{narrow_product}
use Rattle.asg_rankings.proofs.TreeTops.{IsSearchTree-by_top}

-- the product of the last answer is the same by both tops
same_last : (objective : Objective) → is_narrow_objective objective ≡ true → (X : Problem) → IsInstance X → PassesNegative objective X → (answers : List (List (Option ℕ))) → 1 ≤ length answers → All (IsValid X) answers
    → choice_fold (bounded_sums (2 ^ 120)) (sum_entered objective) X (last_answer answers) ≡ choice_fold (bounded_sums narrow_top) (sum_entered objective) X (last_answer answers)
same_last objective is X instance passes answers some valid =
    narrow_product objective X (last_answer answers) is instance.well_formed.few_rows (lies_within cost_reach X (omega arith) instance) passes
    (All-get_or (IsValid X) answers (length answers - 1) [] (omega (arith, some)) valid)

-- a search tree by the narrow sums is one of the objective
pub told_narrow : (objective : Objective) → is_narrow_objective objective ≡ true → (X : Problem) → IsInstance X → PassesNegative objective X
    → (count : ℕ) (answers : List (List (Option ℕ))) (nodes : List Node) → 1 ≤ length answers → All (IsValid X) answers
    → IsSearchTree (bounded_sums narrow_top) bounded_difference plain_word (sum_entered objective) X count answers nodes → TellsRanking objective X count answers nodes Tree
told_narrow Sum is X instance passes count answers nodes some valid tree =
    IsSearchTree-by_top narrow_top (2 ^ 120) (omega arith) plain_word (sum_entered Sum) X count answers nodes (same_last Sum is X instance passes answers some valid) tree
told_narrow SumMax is X instance passes count answers nodes some valid tree =
    IsSearchTree-by_top narrow_top (2 ^ 120) (omega arith) plain_word (sum_entered SumMax) X count answers nodes (same_last SumMax is X instance passes answers some valid) tree
told_narrow _ is X instance passes count answers nodes some valid tree = absurd (cc)
