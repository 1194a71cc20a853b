use Rattle.asg_values.proofs.Common.{◌≡◌, ◌*◌, ◌≤◌, take, enumerate_from, reached_part, sum_by}
use Rattle.asg_values.proofs.hall_sets.reached_capacity.Given as goal

abbrev pub invariant-loop-place : goal.invariant-loop-place
invariant-loop-place l =
    (l.total ≡ sum_by (reached_part l.inst l.fn.band l.rows) (take l.place (enumerate_from 0 l.inst.columns)))
    × (l.total ≤ 1000 * l.place)
