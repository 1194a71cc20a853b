use Rattle.asg_match.proofs.Common.{◌≡◌, length, take, hall_ids}
use Rattle.asg_match.proofs.hall_set.write_ids.Given as goal

abbrev pub invariant-loop-i : goal.invariant-loop-i
invariant-loop-i g l =
    (take l.count l.out ≡ hall_ids l.inst (take l.i l.rows)) × (l.count ≡ length (hall_ids l.inst (take l.i l.rows))) × (length l.out ≡ length l.fn.out)
