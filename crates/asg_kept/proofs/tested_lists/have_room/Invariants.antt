use Rattle.asg_kept.proofs.Common.{◌<◌, length, take, All}
use Rattle.asg_kept.proofs.tested_lists.have_room.Given as goal

-- the phases so far have fewer steps
abbrev pub invariant-phases : goal.invariant-phases
invariant-phases g l = All (λ p. length p.steps < l.places) (take l.k l.given)
