use Rattle.std.specs.Prelude.{◌≤◌, ◌*◌, ℤ, pos, ◌≤ℤ◌, length, All, unsigned_abs}
use Rattle.asg_model.specs.declared.objectives.Objective.{Objective}
use Rattle.asg_model.specs.declared.objectives.Objective.TheVariants.{Sum, SumMax, SumPair, Capped, Bottleneck, BottleneckMax, TimeCost, Balanced, Lex}
use Rattle.asg_model.specs.declared.objectives.Value.{Value}
use Rattle.asg_model.specs.declared.objectives.Value.TheVariants.{One, Two, Many}
use Rattle.asg_model.specs.Limits.{most_cost, most_rows}

-- a part of a cost in range
abbrev pub IsPartInRange : ℤ → Type 0
IsPartInRange x = unsigned_abs x ≤ most_cost

-- a sum of no more parts than there may be rows
abbrev pub IsSumInRange : ℤ → Type 0
IsSumInRange x = unsigned_abs x ≤ most_cost * most_rows

-- a value of the objective's form whose numbers lie where those of at most 1,000 costs in range do
abbrev pub IsValueInRange : Objective → Value → Type 0
IsValueInRange Sum (One x) = IsSumInRange x
IsValueInRange SumMax (One x) = IsSumInRange x
IsValueInRange SumPair (Two x y) = IsSumInRange x × IsSumInRange y
IsValueInRange (Capped cap) (One x) = IsSumInRange x × (x ≤ℤ pos cap)
IsValueInRange Bottleneck (One x) = IsPartInRange x
IsValueInRange BottleneckMax (One x) = IsPartInRange x
IsValueInRange TimeCost (Two x y) = IsPartInRange x × IsSumInRange y
IsValueInRange Balanced (One x) = (pos 0 ≤ℤ x) × (x ≤ℤ pos (2 * most_cost))
IsValueInRange Lex (Many xs) = (length xs ≤ most_rows) × All IsPartInRange xs
IsValueInRange _ _ = ⊥
