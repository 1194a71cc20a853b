use Rattle.asg_phase_totals.proofs.Common.{◌≡◌, ◌≤◌, take, sum_of_steps}
use Rattle.asg_phase_totals.proofs.list_tests.sum_of_list.Given as goal

-- the sum of the steps so far, within the top
abbrev pub invariant-loop-i : goal.invariant-loop-i
invariant-loop-i g l =
    let N = g.N.SumNumber in
    record { sum : N.number l.sum ≡ sum_of_steps (take l.i (N.phases l.phases)); small : N.number l.sum ≤ N.top }
