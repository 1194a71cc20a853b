-- Costs that an objective of sums may refuse: `sum` and `sum-max` refuse none.
use Rattle.asg_table_phases.proofs.Common.{◌≡◌, false, refl, Problem, PassesNegative, Objective, Sum, SumMax}
use Rattle.asg_monoids.specs.NarrowObjectives.{is_narrow_objective}
use Rattle.asg_monoids.specs.laws.NarrowObjectives.{PassesNegative-narrow}

pub PassesNegative-given : (objective : Objective) (X : Problem) → (is_narrow_objective objective ≡ false → PassesNegative objective X) → PassesNegative objective X
PassesNegative-given Sum X given = PassesNegative-narrow Sum X refl
PassesNegative-given SumMax X given = PassesNegative-narrow SumMax X refl
PassesNegative-given _ X given = given (cc)
