-- Guessed phases with an assignment.
use Rattle.std.specs.Prelude.{ℕ, List}
use Rattle.asg_proof.specs.Phases.{PhaseOf}

-- phases, and a column for each row
pub record GuessOf (V : Type 0) : Type 0 where
  pub phases : List (PhaseOf V)
  pub columns : List ℕ
