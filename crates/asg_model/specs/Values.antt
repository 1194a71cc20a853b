use Rattle.std.specs.Prelude.{ℕ, ℤ, pos, ◌+ℤ◌, ◌-ℤ◌, Option, List, length, slice_get, map, filter, filter_map, fold, option_and_then}
use Rattle.std.specs.List.{range_with_len}
use Rattle.std.specs.Int.{int_min}
use Rattle.std.specs.Ordering.{int_eq}
use Rattle.asg_model.specs.declared.parts.Cost.{Cost}
use Rattle.asg_model.specs.declared.objectives.Objective.{Objective}
use Rattle.asg_model.specs.declared.objectives.Objective.TheVariants.{Sum, SumMax, SumPair, Capped, Bottleneck, BottleneckMax, TimeCost, Balanced, Lex}
use Rattle.asg_model.specs.declared.objectives.Value.{Value}
use Rattle.asg_model.specs.declared.objectives.Value.TheVariants.{One, Two, Many}
use Rattle.asg_model.specs.Problem.{Problem}
use Rattle.asg_model.specs.Live.{live_at}
use Rattle.asg_model.specs.Extremes.{greatest, least}
use Rattle.asg_model.specs.Descending.{descending}

-- the cost of the live cell that the row at place r chooses, if it chooses one
abbrev pub chosen_cost : Problem → List (Option ℕ) → ℕ → Option Cost
chosen_cost X f r = option_and_then (λ chosen. option_and_then (live_at X r) chosen) (slice_get f r)

-- the costs of the chosen live cells, in the order of the rows
abbrev pub costs_of : Problem → List (Option ℕ) → List Cost
costs_of X f = filter_map (chosen_cost X f) (range_with_len 0 (length f))

-- the first and the second parts of costs
abbrev pub first_parts : List Cost → List ℤ
first_parts costs = map (λ cost. cost.a) costs

abbrev pub second_parts : List Cost → List ℤ
second_parts costs = map (λ cost. cost.b) costs

-- numbers added up
abbrev pub total : List ℤ → ℤ
total xs = fold ◌+ℤ◌ (pos 0) xs

-- the costs whose first part is this one
abbrev pub costs_at : ℤ → List Cost → List Cost
costs_at a costs = filter (λ cost. int_eq cost.a a) costs

-- the value that an objective gives the costs of the chosen cells
abbrev pub value_of : Objective → List Cost → Value
value_of Sum costs = One (total (first_parts costs))
value_of SumMax costs = One (total (first_parts costs))
value_of SumPair costs = Two (total (first_parts costs)) (total (second_parts costs))
value_of (Capped cap) costs = One (int_min (pos cap) (total (first_parts costs)))
value_of Bottleneck costs = One (greatest (first_parts costs))
value_of BottleneckMax costs = One (least (first_parts costs))
value_of TimeCost costs =
    let most = greatest (first_parts costs) in Two most (total (second_parts (costs_at most costs)))
value_of Balanced costs = One (greatest (first_parts costs) -ℤ least (first_parts costs))
value_of Lex costs = Many (descending (first_parts costs))

-- the value of a choice
abbrev pub choice_value : Objective → Problem → List (Option ℕ) → Value
choice_value objective X f = value_of objective (costs_of X f)
