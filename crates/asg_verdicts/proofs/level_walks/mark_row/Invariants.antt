use Rattle.asg_verdicts.proofs.LevelCommon.{◌≡◌, ℕ, ◌<◌, is_some, has_bit, cell_at}
use Rattle.asg_verdicts.proofs.level_walks.mark_row.Given as goal

-- the columns so far
abbrev pub invariant-loop-column : goal.invariant-loop-column
invariant-loop-column l =
    record {
      end : l.column-end ≡ l.square.side;
      rows : l.left.rows ≡ l.square.side;
      columns : l.left.columns ≡ l.square.side;
      done : (c : ℕ) → c < l.column → has_bit l.left l.row c ≡ is_some (cell_at l.square l.row c);
      others : (r c : ℕ) → (r ≡ l.row → ⊥) → has_bit l.left r c ≡ has_bit l.fn.left r c;
    }
