use Rattle.asg_verdicts.proofs.LevelCommon.{◌≡◌, ℕ, ◌<◌, has_bit, is_zero, cell_at}
use Rattle.asg_verdicts.proofs.level_walks.keep_row.Given as goal

-- the columns so far
abbrev pub invariant-loop-column : goal.invariant-loop-column
invariant-loop-column l =
    record {
      end : l.column-end ≡ l.now.side;
      rows : l.left.rows ≡ l.now.side;
      columns : l.left.columns ≡ l.now.side;
      done : (c : ℕ) → c < l.column → has_bit l.left l.row c ≡ is_zero (cell_at l.now l.row c);
      others : (r c : ℕ) → (r ≡ l.row → ⊥) → has_bit l.left r c ≡ has_bit l.fn.left r c;
    }
