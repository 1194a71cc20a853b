use Rattle.asg_settling.proofs.Common.{◌≡◌, ◌-◌, ◌≤◌, length, IsJoined}
use Rattle.asg_settling.proofs.joined_steps.join_steps.Given as goal

-- the steps so far are joined
abbrev pub invariant-runs : goal.invariant-runs
invariant-runs g l =
    record {
      room : length l.room ≡ length l.fn.room;
      rows : length l.rows ≡ length l.fn.rows;
      columns : length l.columns ≡ length l.fn.columns;
      within : l.from ≤ length l.steps;
      few : l.count ≤ l.from;
      joined : IsJoined (g.M.Ordered.monoid_of l.m) l.steps l.enters l.leaves l.from l.room l.count l.rows l.columns;
    }

abbrev pub decreases-runs : goal.decreases-runs
decreases-runs g l = length l.steps - l.from
