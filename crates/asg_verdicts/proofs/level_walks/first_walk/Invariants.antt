use Rattle.asg_verdicts.proofs.LevelCommon.{◌≡◌, ℕ, ◌<◌, is_some, has_bit, cell_at}
use Rattle.asg_verdicts.proofs.level_walks.first_walk.Given as goal

-- the rows so far
abbrev pub invariant-loop-row : goal.invariant-loop-row
invariant-loop-row l =
    record {
      side : l.side ≡ l.square.side;
      rows : l.left.rows ≡ l.square.side;
      columns : l.left.columns ≡ l.square.side;
      done : (r c : ℕ) → r < l.row → c < l.square.side → has_bit l.left r c ≡ is_some (cell_at l.square r c);
    }
