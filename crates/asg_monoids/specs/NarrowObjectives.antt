-- The objectives that are solved by sums in 64 bits.
use Rattle.std.specs.Prelude.{Bool, true, false}
use Rattle.asg_model.specs.declared.objectives.Objective.{Objective}
use Rattle.asg_model.specs.declared.objectives.Objective.TheVariants.{Sum, SumMax}

-- `sum` and `sum-max`: their sums stay far below the top of those in 64 bits
abbrev pub is_narrow_objective : Objective → Bool
is_narrow_objective Sum = true
is_narrow_objective SumMax = true
is_narrow_objective _ = false
