use Rattle.asg_verdicts.proofs.LevelCommon.{◌≡◌, ℕ, ◌<◌, length, get_or, None, chosen_by}
use Rattle.asg_verdicts.proofs.level_choices.chosen_by.Given as goal

-- the rows so far choose by the list
abbrev pub invariant-loop-row : goal.invariant-loop-row
invariant-loop-row l =
    record {
      end : l.row-end ≡ length l.inst.rows;
      count : length l.chosen ≡ length l.inst.rows;
      done : (r : ℕ) → r < l.row → get_or l.chosen r None ≡ chosen_by l.inst l.perm r;
    }
