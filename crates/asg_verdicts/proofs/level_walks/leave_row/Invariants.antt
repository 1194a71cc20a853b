use Rattle.asg_verdicts.proofs.LevelCommon.{◌≡◌, ℕ, ◌<◌, ◌≤◌, not, ◌&&◌, has_bit, passes_cost, is_between, cell_at}
use Rattle.asg_verdicts.proofs.level_walks.leave_row.Given as goal

-- the columns so far are those that stay, the others are as before
abbrev pub invariant-loop-column : goal.invariant-loop-column
invariant-loop-column l =
    record {
      end : l.column-end ≡ l.square.side;
      rows : l.left.rows ≡ l.square.side;
      columns : l.left.columns ≡ l.square.side;
      done : (c : ℕ) → c < l.column → has_bit l.left l.row c ≡ (has_bit l.fn.left l.row c && not (passes_cost (is_between l.before l.next) (cell_at l.square l.row c)));
      ahead : (c : ℕ) → l.column ≤ c → has_bit l.left l.row c ≡ has_bit l.fn.left l.row c;
      others : (r c : ℕ) → (r ≡ l.row → ⊥) → has_bit l.left r c ≡ has_bit l.fn.left r c;
    }
