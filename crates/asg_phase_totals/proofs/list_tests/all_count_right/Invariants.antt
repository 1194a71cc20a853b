use Rattle.asg_phase_totals.proofs.Common.{take, All, CountsRight}
use Rattle.asg_phase_totals.proofs.list_tests.all_count_right.Given as goal

-- the phases so far count right
abbrev pub invariant-loop-i : goal.invariant-loop-i
invariant-loop-i g l = All (CountsRight l.side) (take l.i (g.N.SumNumber.phases l.phases))
