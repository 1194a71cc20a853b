-- Parts of a phase: its first steps, and those from one place to another.
use Rattle.std.specs.Prelude.{ℕ, ◌-◌, List, drop, map, take}
use Rattle.asg_proof.specs.Phases.{PhaseOf}

-- the steps from one place up to and without another
abbrev pub steps_between : {V : Type 0} → ℕ → ℕ → List V → List V
steps_between from to steps = drop from (take to steps)

-- the marks, where steps are counted from a place on; those before it are at the first of these
-- steps
abbrev pub counted_from : ℕ → List ℕ → List ℕ
counted_from from marks = map (λ mark. mark - from) marks

-- the first so many steps of a phase
abbrev pub first_part : {V : Type 0} → ℕ → PhaseOf V → PhaseOf V
first_part n phase = record { steps = take n phase.steps; enters = phase.enters; leaves = phase.leaves }

-- the phase of the steps from one place up to and without another
abbrev pub part_of : {V : Type 0} → ℕ → ℕ → PhaseOf V → PhaseOf V
part_of from to phase =
    record { steps = steps_between from to phase.steps; enters = counted_from from phase.enters; leaves = counted_from from phase.leaves }
