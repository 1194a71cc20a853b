-- What holds of `sum` and `sum-max`: they are objectives of sums, and refuse no cost.
use Rattle.std.proofs.Common.{◌≡◌, Bool, true, false, Option, Some, None, refl}
use Rattle.std.specs.Prelude.{IfSome}
use Rattle.asg_model.specs.declared.parts.Cost.{Cost}
use Rattle.asg_model.specs.declared.objectives.Objective.{Objective}
use Rattle.asg_model.specs.declared.objectives.Objective.TheVariants.{Sum, SumMax}
use Rattle.asg_model.specs.Live.{live_at}
use Rattle.asg_model.specs.Problem.{Problem}
use Rattle.asg_model.specs.Refused.{is_refused, PassesNegative}
use Rattle.asg_monoids.specs.Entered.{is_sum_objective}
use Rattle.asg_monoids.specs.NarrowObjectives.{is_narrow_objective}

pub is_sum-narrow : (objective : Objective) → is_narrow_objective objective ≡ true → is_sum_objective objective ≡ true
is_sum-narrow Sum is = refl
is_sum-narrow SumMax is = refl
is_sum-narrow _ is = absurd (cc)

never_refused : (objective : Objective) → is_narrow_objective objective ≡ true → (cost : Cost) → is_refused objective cost ≡ false
never_refused Sum is cost = refl
never_refused SumMax is cost = refl
never_refused _ is cost = absurd (cc)

pub PassesNegative-narrow : (objective : Objective) (X : Problem) → is_narrow_objective objective ≡ true → PassesNegative objective X
PassesNegative-narrow objective X is r c = each (live_at X r c)
  where
    each : (o : Option Cost) → IfSome o (λ cost. is_refused objective cost ≡ false)
    each None = tt
    each (Some cost) = never_refused objective is cost
