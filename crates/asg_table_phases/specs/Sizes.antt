-- How many steps phases have.
use Rattle.std.specs.Prelude.{ℕ, ◌≤◌, List, length, All}
use Rattle.asg_proof.specs.Phases.{PhaseOf}

-- a phase of 1 to side steps
pub record IsSized (side : ℕ) (phase : PhaseOf ℕ) : Type 0 where
  pub some : 1 ≤ length phase.steps
  pub few : length phase.steps ≤ side

-- at most so many phases as the side, each of 1 to side steps
pub record AreSized (side : ℕ) (phases : List (PhaseOf ℕ)) : Type 0 where
  pub few : length phases ≤ side
  pub each : All (IsSized side) phases
