use Rattle.asg_verdicts.proofs.LevelCommon.{◌≡◌, ℕ, ◌<◌, has_bit, level_value, cell_at}
use Rattle.asg_verdicts.proofs.level_walks.level_start.Given as goal

-- the rows so far
abbrev pub invariant-loop-row : goal.invariant-loop-row
invariant-loop-row l =
    record {
      end : l.row-end ≡ l.square.side;
      side : l.now.side ≡ l.square.side;
      done : (r c : ℕ) → r < l.row → c < l.square.side → cell_at l.now r c ≡ level_value (has_bit l.walk.left r c) l.cost (cell_at l.square r c);
    }
