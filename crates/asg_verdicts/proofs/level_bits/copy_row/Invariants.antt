use Rattle.asg_verdicts.proofs.LevelCommon.{◌≡◌, ℕ, ◌*◌, ◌<◌, ◌&&◌, is_some, has_bit, word_count, cell_at}
use Rattle.asg_verdicts.proofs.level_bits.copy_row.Given as goal

-- the words so far
abbrev pub invariant-loop-number : goal.invariant-loop-number
invariant-loop-number l =
    record {
      end : l.number-end ≡ word_count l.square.side;
      rows : l.zeros.rows ≡ l.square.side;
      columns : l.zeros.columns ≡ l.square.side;
      done : (c : ℕ) → c < 64 * l.number → has_bit l.zeros l.row c ≡ (has_bit l.left l.row c && is_some (cell_at l.square l.row c));
      others : (r c : ℕ) → (r ≡ l.row → ⊥) → has_bit l.zeros r c ≡ has_bit l.fn.zeros r c;
    }
