use Rattle.asg_kept_phases.proofs.Common.{◌≡◌, length, take, LeadsTo, phases_along}
use Rattle.asg_kept_phases.proofs.settled_trails.settle_trails.Given as goal

abbrev pub invariant-loop-i : goal.invariant-loop-i
invariant-loop-i g l =
    LeadsTo (g.M.Ordered.monoid_of l.m) (g.M.DMonoid.difference l.m) (take l.i (phases_along l.region l.trails)) l.fn.reduced l.reduced
    × (length l.room ≡ length l.fn.room)
