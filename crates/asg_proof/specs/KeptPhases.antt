-- How many phases are kept: the longest prefix that is admitted from a square.
use Rattle.std.specs.Prelude.{ℕ, ◌≤◌, List, length, take, Option}
use Rattle.asg_order.specs.Monoid.{Monoid}
use Rattle.asg_proof.specs.Phases.{PhaseOf, AreAdmittedPhases}

-- the longest prefix of a list of phases that is admitted in turn from a square has so many phases
pub record AreKept {V : Type 0} (M : Monoid V) (difference : V → V → V) (side : ℕ)
    (phases : List (PhaseOf V)) (square : ℕ → ℕ → Option V) (n : ℕ) : Type 0 where
  pub within : n ≤ length phases
  pub admitted : AreAdmittedPhases M difference side (take n phases) square
  pub longest : (m : ℕ) → m ≤ length phases
      → AreAdmittedPhases M difference side (take m phases) square → m ≤ n
