use Rattle.asg_check.proofs.Common.{◌≡◌, ℕ, ◌<◌, get_or}
use Rattle.asg_order.specs.declared.words.Word.{Word}
use Rattle.asg_check.proofs.known_phases.are_same_steps.Given as goal

-- the steps so far are the same
abbrev pub invariant-steps : goal.invariant-steps
invariant-steps l = (k : ℕ) (d : Word) → k < l.place → get_or l.steps k d ≡ get_or l.others k d
