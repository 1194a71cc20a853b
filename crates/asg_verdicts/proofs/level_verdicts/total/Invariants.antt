use Rattle.asg_verdicts.proofs.LevelCommon.{◌≡◌, ◌*◌, ◌^◌, ◌≤◌, take, sum_by, Level}
use Rattle.asg_verdicts.proofs.level_verdicts.total.Given as goal

-- the counts of the levels so far
abbrev pub invariant-loop-place : goal.invariant-loop-place
invariant-loop-place l =
    record {
      sum : l.total ≡ sum_by (λ (level : Level). level.count) (take l.place l.levels);
      few : l.total ≤ l.place * 2 ^ 32;
    }
