use Rattle.asg_repair.proofs.Common.{◌≡◌, take, unmatched}
use Rattle.asg_repair.proofs.free_rows.free_rows.Given as goal

abbrev pub invariant-loop-r : goal.invariant-loop-r
invariant-loop-r l = l.count ≡ unmatched (take l.r l.matching)
