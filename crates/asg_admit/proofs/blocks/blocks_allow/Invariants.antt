use Rattle.asg_admit.proofs.Common.{◌≡◌, ◌-◌, ◌≤◌, length, HoldsLeast, held_at, place_of, phase_of}
use Rattle.asg_admit.proofs.blocks.blocks_allow.Given as goal

-- the steps so far are allowed, and the least cells are held
abbrev pub invariant-runs : goal.invariant-runs
invariant-runs g l =
    let M = g.M.Ordered.monoid_of l.m in
    record {
      room : length l.room ≡ length l.fn.room;
      held : length l.leaves ≤ length l.held;
      holds : HoldsLeast M (g.M.DMonoid.difference l.m) (phase_of l.steps l.enters l.leaves) l.square (place_of (length l.steps) l.leaves) l.from l.from (held_at M l.room l.held);
    }

abbrev pub decreases-runs : goal.decreases-runs
decreases-runs g l = length l.steps - l.from
