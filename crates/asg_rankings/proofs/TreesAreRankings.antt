-- Search trees prove rankings, by each objective.
use Rattle.asg_rankings.proofs.Common.{◌≡◌, ℕ, ◌^◌, true, List, Option, refl, arith, IsHall, IsInstance, Problem, PassesNegative, IsValid, Whole, Objective, Cost, bounded_sums, bounded_difference, plain_word, KeepsOrder, choice_fold, MayEnter, Monoid, IsValue, IsLe, IsOrderedMonoid, Word, EntersValues, ProvesIndex, PhaseOf, AreListed, IsRanking, IsSearchTree, Node}
use Rattle.asg_model.specs.declared.objectives.Objective.TheVariants.{Sum, SumMax, SumPair, Capped, Bottleneck, BottleneckMax, TimeCost, Balanced, Lex}
use Rattle.asg_order.specs.Differences.{HasDifferences}
use Rattle.asg_order.specs.laws.ChosenCosts.{Bridges-from_KeepsOrder}
use Rattle.asg_model.specs.Objectives.{is_bottleneck}
use Rattle.asg_monoids.specs.Entered.{cost_reach, is_sum_objective, top_of, sum_entered, peak_entered, time_entered}
use Rattle.asg_monoids.specs.Grades.{graded, graded_difference, graded_word}
use Rattle.asg_monoids.specs.Maxima.{maxima, maxima_difference}
use Rattle.asg_monoids.specs.laws.Bounded.{bounded_laws, bounded_difference_laws}
use Rattle.asg_monoids.specs.laws.Graded.{graded_laws, graded_difference_laws}
use Rattle.asg_monoids.specs.laws.Maxima.{maxima_laws, maxima_difference_laws}
use Rattle.asg_monoids.specs.laws.PeakOrders.{peaks_keep_order, peaks_enter_values}
use Rattle.asg_monoids.specs.laws.SumOrders.{sums_keep_order, sums_enter_values}
use Rattle.asg_monoids.specs.laws.TimeOrders.{times_keep_order, times_enter_values}
use Rattle.asg_rankings.specs.TreeProofs.{IsSumTree, IsPeakTree, IsTimeTree, ProvesRanking}
use Rattle.asg_rankings.proofs.RankingLaw.{all_accounted, all_valid}
use Rattle.asg_rankings.proofs.Rankings.{kind_ranking}
use Rattle.asg_model.specs.declared.parts.Place.TheVariants.{All as PlaceAll}

-- in each ordered monoid of such values with differences the proved index is at most the product of a
-- valid choice
abbrev BoundsChoices : Type 0 → Type 0
BoundsChoices V = (M : Monoid V) (difference : V → V → V) (enter : Cost → V) (X : Problem) (phases : List (PhaseOf V)) (z : V) (f : List (Option ℕ)) → IsOrderedMonoid M → HasDifferences M difference → IsInstance X → EntersValues M enter X → ProvesIndex M difference enter X phases z → IsValid X f → IsLe M z (choice_fold M enter X f)

module _ (hall : (X : Problem) (ids : List ℕ) (f : List (Option ℕ)) → IsHall X Whole ids → IsValid X f → ⊥) (numbers : BoundsChoices ℕ) (pairs : BoundsChoices (ℕ × ℕ)) where
  -- in one monoid
  by_monoid : {V : Type 0} → BoundsChoices V → (M : Monoid V) (laws : IsOrderedMonoid M) (difference : V → V → V) → HasDifferences M difference → (word_of : V → Word) (enter : Cost → V) (objective : Objective) → KeepsOrder M enter objective cost_reach → ((cost : Cost) → MayEnter objective cost_reach cost → IsValue M (enter cost)) → (X : Problem) (count : ℕ) (answers : List (List (Option ℕ))) (nodes : List Node) → IsInstance X → X.place ≡ PlaceAll → PassesNegative objective X → AreListed objective X count answers → IsSearchTree M difference word_of enter X count answers nodes → IsRanking objective X count answers
  by_monoid bounds M laws difference has word_of enter objective keeps values X count answers nodes instance all passes listed tree =
      kind_ranking M laws difference word_of objective enter cost_reach (Bridges-from_KeepsOrder M enter objective cost_reach keeps) values
      X count answers nodes instance all passes (omega arith) listed tree
      (λ into Y k given some i a l t. all_valid M laws difference word_of into (λ Z phases z f. bounds M difference into Z phases z f laws has) hall Y k given some i a l t)
      (λ into Y k given some g i a l t v. all_accounted M laws difference word_of into (λ Z phases z f. bounds M difference into Z phases z f laws has) hall Y k given some i a l t g v)

  by_sums : (objective : Objective) → is_sum_objective objective ≡ true → (X : Problem) (count : ℕ) (answers : List (List (Option ℕ))) (nodes : List Node) → IsInstance X → X.place ≡ PlaceAll → PassesNegative objective X → AreListed objective X count answers → IsSumTree objective X count answers nodes → IsRanking objective X count answers
  by_sums objective is =
      by_monoid numbers (bounded_sums (top_of objective)) (bounded_laws (top_of objective)) bounded_difference (bounded_difference_laws (top_of objective)) plain_word
      (sum_entered objective) objective (sums_keep_order objective is) (λ cost may. sums_enter_values objective cost is may)

  by_peaks : (objective : Objective) → is_bottleneck objective ≡ true → (X : Problem) (count : ℕ) (answers : List (List (Option ℕ))) (nodes : List Node) → IsInstance X → X.place ≡ PlaceAll → PassesNegative objective X → AreListed objective X count answers → IsPeakTree objective X count answers nodes → IsRanking objective X count answers
  by_peaks objective is =
      by_monoid numbers maxima maxima_laws maxima_difference maxima_difference_laws plain_word
      (peak_entered objective) objective (peaks_keep_order objective is) (λ cost may. peaks_enter_values objective cost is may)

  by_times : (X : Problem) (count : ℕ) (answers : List (List (Option ℕ))) (nodes : List Node) → IsInstance X → X.place ≡ PlaceAll → PassesNegative TimeCost X → AreListed TimeCost X count answers → IsTimeTree X count answers nodes → IsRanking TimeCost X count answers
  by_times =
      let sums = bounded_sums (2 ^ 120) in
      by_monoid pairs (graded sums) (graded_laws sums (bounded_laws (2 ^ 120)))
      (graded_difference sums bounded_difference) (graded_difference_laws sums (bounded_laws (2 ^ 120)) bounded_difference (bounded_difference_laws (2 ^ 120))) graded_word
      time_entered TimeCost times_keep_order times_enter_values

  -- a search tree in the objective's monoid proves a ranking
  pub IsRanking-from_tree : (objective : Objective) (X : Problem) (count : ℕ) (answers : List (List (Option ℕ))) (nodes : List Node) → IsInstance X → X.place ≡ PlaceAll → PassesNegative objective X → AreListed objective X count answers → ProvesRanking objective X count answers nodes → IsRanking objective X count answers
  IsRanking-from_tree Sum = by_sums Sum refl
  IsRanking-from_tree SumMax = by_sums SumMax refl
  IsRanking-from_tree SumPair = by_sums SumPair refl
  IsRanking-from_tree (Capped cap) = by_sums (Capped cap) refl
  IsRanking-from_tree Bottleneck = by_peaks Bottleneck refl
  IsRanking-from_tree BottleneckMax = by_peaks BottleneckMax refl
  IsRanking-from_tree TimeCost = by_times
  IsRanking-from_tree Balanced = λ X count answers nodes instance all passes listed proved. absurd proved
  IsRanking-from_tree Lex = λ X count answers nodes instance all passes listed proved. absurd proved
