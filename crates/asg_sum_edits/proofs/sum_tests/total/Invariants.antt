use Rattle.asg_sum_edits.proofs.Common.{◌≡◌, ◌*◌, ◌^◌, ◌≤◌, take, sum}
use Rattle.asg_sum_edits.proofs.sum_tests.total.Given as goal

-- the total so far is the sum of the numbers so far, each below 2^64
abbrev pub invariant-numbers : goal.invariant-numbers
invariant-numbers l =
    record {
      is : l.total ≡ sum (take l.number-index l.numbers);
      low : l.total ≤ l.number-index * 2 ^ 64;
    }
