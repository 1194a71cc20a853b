use Rattle.asg_hall_windows.proofs.Common.{ℕ, ◌*◌, ◌≤◌, List, take, enumerate_from, sum_by, Band, ReachesMarked, reached_part}
use Rattle.asg_hall_windows.proofs.capacities.capacity.Given as goal

abbrev pub invariant-loop-place : goal.invariant-loop-place
invariant-loop-place l = record {
  whole : (band : Band) (ids : List ℕ) → ReachesMarked l.inst band ids l.reached l.fn.window → sum_by (reached_part l.inst band ids) (take l.place (enumerate_from 0 l.inst.columns)) ≤ l.total;
  bound : l.total ≤ 1000 * l.place;
}
