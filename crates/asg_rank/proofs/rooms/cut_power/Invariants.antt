use Rattle.asg_rank.proofs.Common.{◌≡◌, ◌^◌, ◌≤◌, min}
use Rattle.asg_rank.proofs.rooms.cut_power.Given as goal

-- the power so far, cut
abbrev pub invariant-factors : goal.invariant-factors
invariant-factors l = record {
  few : l.product ≤ l.most;
  power : l.product ≡ min (l.base ^ l.counter) l.most;
}
