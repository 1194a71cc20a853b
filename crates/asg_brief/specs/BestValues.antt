-- The value of the best choices.
use Rattle.std.specs.Prelude.{◌≡◌, ℕ, List, Option}
use Rattle.asg_model.specs.declared.objectives.Objective.{Objective}
use Rattle.asg_model.specs.declared.objectives.Value.{Value}
use Rattle.asg_model.specs.Best.{IsBest}
use Rattle.asg_model.specs.Problem.{Problem}
use Rattle.asg_model.specs.ValidChoice.{IsValid}
use Rattle.asg_model.specs.Values.{choice_value}

-- no choice is valid
abbrev pub HasNoChoice : Problem → Type 0
HasNoChoice X = (f : List (Option ℕ)) → ¬ IsValid X f

-- the value is that of the best choices: there is one, and each has it
pub record IsBestValue (objective : Objective) (X : Problem) (value : Value) : Type 0 where
  pub choice : List (Option ℕ)
  pub best : IsBest objective X choice
  pub each : (f : List (Option ℕ)) → IsBest objective X f → choice_value objective X f ≡ value
