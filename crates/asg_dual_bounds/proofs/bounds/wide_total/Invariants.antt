use Rattle.asg_dual_bounds.proofs.Common.{◌≡◌, take, sum}
use Rattle.asg_dual_bounds.proofs.bounds.wide_total.Given as goal

-- the total so far
abbrev pub invariant-numbers : goal.invariant-numbers
invariant-numbers l =
    l.total ≡ sum (take l.number-index l.numbers)
