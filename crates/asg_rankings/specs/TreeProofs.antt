-- What a search tree proves of listed answers, by objective.
use Rattle.std.specs.Prelude.{ℕ, ◌^◌, List, Option}
use Rattle.asg_model.specs.declared.objectives.Objective.{Objective}
use Rattle.asg_model.specs.declared.objectives.Objective.TheVariants.{Sum, SumMax, SumPair, Capped, Bottleneck, BottleneckMax, TimeCost, Balanced, Lex}
use Rattle.asg_model.specs.Problem.{Problem}
use Rattle.asg_monoids.specs.BoundedSums.{bounded_sums, bounded_difference, plain_word}
use Rattle.asg_monoids.specs.Entered.{top_of, sum_entered, peak_entered, time_entered}
use Rattle.asg_monoids.specs.Grades.{graded, graded_difference, graded_word}
use Rattle.asg_monoids.specs.Maxima.{maxima, maxima_difference}
use Rattle.asg_rankings.specs.declared.nodes.Node.{Node}
use Rattle.asg_rankings.specs.SearchTrees.{IsSearchTree}

-- a search tree by sums that stop at the objective's top
abbrev pub IsSumTree : Objective → Problem → ℕ → List (List (Option ℕ)) → List Node → Type 0
IsSumTree objective =
    IsSearchTree (bounded_sums (top_of objective)) bounded_difference plain_word (sum_entered objective)

-- the same by maxima
abbrev pub IsPeakTree : Objective → Problem → ℕ → List (List (Option ℕ)) → List Node → Type 0
IsPeakTree objective = IsSearchTree maxima maxima_difference plain_word (peak_entered objective)

-- the same by sums with a grade before them
abbrev pub IsTimeTree : Problem → ℕ → List (List (Option ℕ)) → List Node → Type 0
IsTimeTree =
    IsSearchTree (graded (bounded_sums (2 ^ 120)))
    (graded_difference (bounded_sums (2 ^ 120)) bounded_difference) graded_word time_entered

-- the nodes prove that nothing better than the answers was left out: they are a search tree in the
-- objective's monoid; `balanced` and `lex` have none
abbrev pub ProvesRanking : Objective → Problem → ℕ → List (List (Option ℕ)) → List Node → Type 0
ProvesRanking Sum X count answers nodes = IsSumTree Sum X count answers nodes
ProvesRanking SumMax X count answers nodes = IsSumTree SumMax X count answers nodes
ProvesRanking SumPair X count answers nodes = IsSumTree SumPair X count answers nodes
ProvesRanking (Capped cap) X count answers nodes = IsSumTree (Capped cap) X count answers nodes
ProvesRanking Bottleneck X count answers nodes = IsPeakTree Bottleneck X count answers nodes
ProvesRanking BottleneckMax X count answers nodes = IsPeakTree BottleneckMax X count answers nodes
ProvesRanking TimeCost X count answers nodes = IsTimeTree X count answers nodes
ProvesRanking Balanced X count answers nodes = ⊥
ProvesRanking Lex X count answers nodes = ⊥
