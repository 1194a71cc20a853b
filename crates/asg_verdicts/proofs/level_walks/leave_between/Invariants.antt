use Rattle.asg_verdicts.proofs.LevelCommon.{◌≡◌, ℕ, ◌<◌, ◌≤◌, not, ◌&&◌, has_bit, passes_cost, is_between, cell_at}
use Rattle.asg_verdicts.proofs.level_walks.leave_between.Given as goal

-- the rows so far are those that stay, the others are as before
abbrev pub invariant-loop-row : goal.invariant-loop-row
invariant-loop-row l =
    record {
      end : l.row-end ≡ l.square.side;
      before : l.walk.before ≡ l.fn.walk.before;
      rows : l.walk.left.rows ≡ l.square.side;
      columns : l.walk.left.columns ≡ l.square.side;
      done : (r c : ℕ) → r < l.row → c < l.square.side → has_bit l.walk.left r c
          ≡ (has_bit l.fn.walk.left r c && not (passes_cost (is_between l.fn.walk.before l.next) (cell_at l.square r c)));
      ahead : (r c : ℕ) → l.row ≤ r → has_bit l.walk.left r c ≡ has_bit l.fn.walk.left r c;
    }
