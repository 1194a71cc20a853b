-- Where the phases of a list stand.
use Rattle.std.specs.Prelude.{List, [], ◌∷◌}
use Rattle.asg_order.specs.declared.words.Word.{Word}
use Rattle.asg_proof.specs.declared.phase_lists.Room.{Room}
use Rattle.asg_proof.specs.declared.phase_lists.Room.TheVariants.{Empty, One, More}
use Rattle.asg_proof.specs.Phases.{PhaseOf}

-- the phases that stand there
abbrev pub phases_in : Room → List (PhaseOf Word)
phases_in Empty = []
phases_in (One phase) = phase.value ∷ []
phases_in (More phases) = phases.value.items
