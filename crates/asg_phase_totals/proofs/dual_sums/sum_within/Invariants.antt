use Rattle.asg_phase_totals.proofs.Common.{◌≡◌, ◌≤◌, sum_before}
use Rattle.asg_phase_totals.proofs.dual_sums.sum_within.Given as goal

-- the sum so far
abbrev pub invariant-loop-t : goal.invariant-loop-t
invariant-loop-t g l =
    record {
      is : g.N.SumNumber.number l.sum ≡ sum_before (g.N.SumNumber.numbers l.steps) l.t;
      few : g.N.SumNumber.number l.sum ≤ g.N.SumNumber.number l.top;
    }
