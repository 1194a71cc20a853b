-- What a solver has in hand.
use Rattle.std.specs.Prelude.{ℕ, List, Option}
use Rattle.asg_admit.specs.declared.reduced.Reduced.{Reduced}
use Rattle.asg_pool.specs.Forest.{Forest}

-- the reduced square, the matching so far, and the phases that were pushed
pub record Stage (V : Type 0) : Type 0 where
  pub square : Reduced V
  pub matching : List (Option ℕ)
  pub forest : Forest V

abbrev pub stage_of : {V : Type 0} → Reduced V → List (Option ℕ) → Forest V → Stage V
stage_of square matching forest =
    record { square = square; matching = matching; forest = forest }
