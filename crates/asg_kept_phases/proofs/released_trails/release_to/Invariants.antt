use Rattle.asg_kept_phases.proofs.Common.{◌≡◌, ◌+◌, ◌-◌, ◌≤◌, length, take, phases_to}
use Rattle.asg_kept_phases.specs.Chains.{IsChain}
use Rattle.asg_kept_phases.proofs.released_trails.release_to.Given as goal

abbrev pub invariant-loop : goal.invariant-loop
invariant-loop g l =
    IsChain l.region l.left
    × (phases_to l.region l.left ≡ take ((length (phases_to l.fn.region l.fn.last) + l.count) - l.counter) (phases_to l.fn.region l.fn.last))
    × (l.fn.region.spare ≤ l.region.spare)
    × (l.region.side ≡ l.fn.region.side)
