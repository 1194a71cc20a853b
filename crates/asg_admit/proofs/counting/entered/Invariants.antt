use Rattle.asg_admit.proofs.Common.{◌≡◌, ◌≤◌, entered_at, count_below}
use Rattle.asg_admit.proofs.counting.entered.Given as goal

-- the rows so far are counted
abbrev pub invariant-loop-r : goal.invariant-loop-r
invariant-loop-r l =
    record {
      is : l.count ≡ count_below (entered_at l.enters l.t) l.r;
      few : l.count ≤ l.r;
    }
