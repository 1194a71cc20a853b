use Rattle.std.specs.Prelude.{ℕ, Option, List}
use Rattle.asg_model.specs.declared.objectives.Objective.{Objective}
use Rattle.asg_model.specs.Problem.{Problem}
use Rattle.asg_model.specs.ValidChoice.{IsValid}
use Rattle.asg_model.specs.Values.{choice_value}
use Rattle.asg_model.specs.Better.{IsBetter}

-- a best choice is valid, and no valid choice is better
pub record IsBest (objective : Objective) (X : Problem) (f : List (Option ℕ)) : Type 0 where
  pub valid : IsValid X f
  pub none_better : (g : List (Option ℕ)) → IsValid X g →
      ¬ IsBetter objective (choice_value objective X g) (choice_value objective X f)
