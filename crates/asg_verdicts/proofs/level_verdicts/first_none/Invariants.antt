use Rattle.asg_verdicts.proofs.LevelCommon.{HasPassed, IsSized, square_side}
use Rattle.asg_verdicts.proofs.level_verdicts.first_none.Given as goal

-- the walk stands behind the levels so far
abbrev pub invariant-loop-place : goal.invariant-loop-place
invariant-loop-place l =
    record {
      sized : IsSized (square_side l.inst) l.walk;
      passed : HasPassed l.inst l.perm l.levels l.place l.walk;
    }
