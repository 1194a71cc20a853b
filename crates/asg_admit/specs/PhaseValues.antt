-- Phases of values.
use Rattle.std.specs.Prelude.{List, All}
use Rattle.asg_order.specs.Monoid.{Monoid, IsValue}
use Rattle.asg_proof.specs.Phases.{PhaseOf}

-- each step of each phase is a value
abbrev pub AreOfValues : {V : Type 0} → Monoid V → List (PhaseOf V) → Type 0
AreOfValues M phases = All (λ phase. All (IsValue M) phase.steps) phases
