use Rattle.asg_check.proofs.Common.{◌≡◌, ℕ, ◌<◌, get_or}
use Rattle.asg_order.specs.declared.words.Word.{Word}
use Rattle.asg_proof.specs.Phases.{PhaseOf}
use Rattle.asg_check.proofs.known_phases.are_same.Given as goal

-- the phases so far are the same
abbrev pub invariant-phases : goal.invariant-phases
invariant-phases l = (k : ℕ) (d : PhaseOf Word) → k < l.place → get_or l.phases k d ≡ get_or l.others k d
