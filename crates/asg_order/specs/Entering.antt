use Rattle.std.specs.Prelude.{◌≡◌, ℕ, ◌≤◌, false, unsigned_abs, IfSome}
use Rattle.asg_model.specs.declared.parts.Cost.{Cost}
use Rattle.asg_model.specs.declared.objectives.Objective.{Objective}
use Rattle.asg_model.specs.Problem.{Problem}
use Rattle.asg_model.specs.Live.{live_at}
use Rattle.asg_model.specs.Refused.{is_refused}

-- neither part of a cost is greater than the reach or less than the negated reach
pub record IsWithin (reach : ℕ) (cost : Cost) : Type 0 where
  pub a_within : unsigned_abs cost.a ≤ reach
  pub b_within : unsigned_abs cost.b ≤ reach

-- a cost may enter for an objective: it lies within the reach, and the objective doesn't refuse it
pub record MayEnter (objective : Objective) (reach : ℕ) (cost : Cost) : Type 0 where
  pub within : IsWithin reach cost
  pub passes : is_refused objective cost ≡ false

-- the live costs of an instance lie within the reach
abbrev pub LiesWithin : ℕ → Problem → Type 0
LiesWithin reach X = (r c : ℕ) → IfSome (live_at X r c) (IsWithin reach)
