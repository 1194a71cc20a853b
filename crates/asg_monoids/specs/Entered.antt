use Rattle.std.specs.Prelude.{ℕ, ◌+◌, ◌*◌, ◌^◌, min, ℤ, pos, ◌+ℤ◌, ◌-ℤ◌, unsigned_abs, Bool, true, false}
use Rattle.asg_model.specs.Limits.{most_cost}
use Rattle.asg_model.specs.declared.parts.Cost.{Cost}
use Rattle.asg_model.specs.declared.objectives.Objective.{Objective}
use Rattle.asg_model.specs.declared.objectives.Objective.TheVariants.{Sum, SumMax, SumPair, Capped, Bottleneck, BottleneckMax}

-- how far from 0 a part of a cost that enters may lie
abbrev pub cost_reach : ℕ
cost_reach = most_cost

-- a part of a cost, shifted to a number from 0 on
abbrev pub shifted : ℤ → ℕ
shifted a = unsigned_abs (a +ℤ pos cost_reach)

-- a part of a cost, turned round and shifted to a number from 0 on
abbrev pub turned : ℤ → ℕ
turned a = unsigned_abs (pos cost_reach -ℤ a)

-- the objectives whose costs enter sums: `sum`, `sum-max`, `pair` and `capped`
abbrev pub is_sum_objective : Objective → Bool
is_sum_objective Sum = true
is_sum_objective SumMax = true
is_sum_objective SumPair = true
is_sum_objective (Capped cap) = true
is_sum_objective _ = false

-- where the sums of such an objective stop: at the cap, or at 2^120, which none reaches
abbrev pub top_of : Objective → ℕ
top_of (Capped cap) = cap
top_of _ = 2 ^ 120

-- the number as which a cost enters sums
abbrev pub sum_entered : Objective → Cost → ℕ
sum_entered Sum cost = shifted cost.a
sum_entered SumMax cost = turned cost.a
sum_entered SumPair cost = shifted cost.a * 2 ^ 42 + shifted cost.b
sum_entered (Capped cap) cost = min (unsigned_abs cost.a) cap
sum_entered _ cost = 0

-- the number as which a cost enters maxima
abbrev pub peak_entered : Objective → Cost → ℕ
peak_entered Bottleneck cost = shifted cost.a
peak_entered BottleneckMax cost = turned cost.a
peak_entered _ cost = 0

-- the pair as which a cost of `time-cost` enters: the grade and the amount
abbrev pub time_entered : Cost → ℕ × ℕ
time_entered cost = (shifted cost.a, unsigned_abs cost.b)
