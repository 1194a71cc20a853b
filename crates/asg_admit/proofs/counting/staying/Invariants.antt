use Rattle.asg_admit.proofs.Common.{◌≡◌, ◌≤◌, staying_at, count_below}
use Rattle.asg_admit.proofs.counting.staying.Given as goal

-- the columns so far are counted
abbrev pub invariant-loop-k : goal.invariant-loop-k
invariant-loop-k l =
    record {
      is : l.count ≡ count_below (staying_at l.leaves l.t) l.k;
      few : l.count ≤ l.k;
    }
