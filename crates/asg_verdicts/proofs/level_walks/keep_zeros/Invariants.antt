use Rattle.asg_verdicts.proofs.LevelCommon.{◌≡◌, ℕ, ◌<◌, has_bit, is_zero, cell_at}
use Rattle.asg_verdicts.proofs.level_walks.keep_zeros.Given as goal

-- the rows so far
abbrev pub invariant-loop-row : goal.invariant-loop-row
invariant-loop-row l =
    record {
      end : l.row-end ≡ l.now.side;
      rows : l.walk.left.rows ≡ l.now.side;
      columns : l.walk.left.columns ≡ l.now.side;
      done : (r c : ℕ) → r < l.row → c < l.now.side → has_bit l.walk.left r c ≡ is_zero (cell_at l.now r c);
    }
