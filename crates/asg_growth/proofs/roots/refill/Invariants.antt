use Rattle.asg_growth.proofs.Common.{◌≡◌, replicate, vec_capacity}
use Rattle.asg_growth.proofs.roots.refill.Given as goal

-- the value stands there so many times
abbrev pub invariant-loop : goal.invariant-loop
invariant-loop g l =
    record {
      items : l.list.items ≡ replicate l.counter l.value;
      room : vec_capacity l.list ≡ vec_capacity l.fn.list;
    }
