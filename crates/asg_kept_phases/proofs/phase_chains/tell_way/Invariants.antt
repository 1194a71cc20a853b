use Rattle.asg_kept_phases.proofs.Common.{◌+◌, ◌≤◌, length, vec_len, vec_capacity, phases_to}
use Rattle.asg_kept_phases.proofs.TrailLemmas.{IsOnTheWay}
use Rattle.asg_kept_phases.proofs.phase_chains.tell_way.Given as goal

abbrev pub invariant-trails : goal.invariant-trails
invariant-trails g l =
    IsOnTheWay l.region (phases_to l.region l.fn.last) l.way.items l.next
    × (vec_len l.way + length (phases_to l.region l.next) ≤ vec_capacity l.way)

abbrev pub decreases-trails : goal.decreases-trails
decreases-trails g l = length (phases_to l.region l.next)
