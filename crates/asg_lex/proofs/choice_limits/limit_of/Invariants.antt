use Rattle.asg_lex.proofs.Common.{◌+◌, ◌<◌, ◌≤◌, AreUnderBefore, most_grade}
use Rattle.asg_lex.proofs.choice_limits.limit_of.Given as goal

-- the rows so far
abbrev pub invariant-loop-row : goal.invariant-loop-row
invariant-loop-row l =
    record {
      some : 0 < l.limit;
      few : l.limit ≤ most_grade + 1;
      under : AreUnderBefore l.inst l.limit l.choice l.row;
    }
