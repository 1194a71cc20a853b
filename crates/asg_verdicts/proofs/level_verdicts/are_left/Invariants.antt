use Rattle.asg_verdicts.proofs.LevelCommon.{ℕ, ◌<◌, get_or, IsTrue, has_bit}
use Rattle.asg_verdicts.proofs.level_verdicts.are_left.Given as goal

-- the cells of the rows so far are left
abbrev pub invariant-loop-row : goal.invariant-loop-row
invariant-loop-row l =
    record {
      left : (r : ℕ) → r < l.row → IsTrue (has_bit l.walk.left r (get_or l.perm r 0));
    }
