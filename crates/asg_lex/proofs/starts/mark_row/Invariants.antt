use Rattle.asg_lex.proofs.Common.{◌≡◌, ℕ, ◌*◌, ◌<◌, has_bit, word_count, is_under, cell_at}
use Rattle.asg_lex.proofs.starts.mark_row.Given as goal

-- the words so far
abbrev pub invariant-loop-number : goal.invariant-loop-number
invariant-loop-number l =
    record {
      end : l.number-end ≡ word_count l.square.side;
      rows : l.bits.rows ≡ l.square.side;
      columns : l.bits.columns ≡ l.square.side;
      done : (c : ℕ) → c < 64 * l.number → has_bit l.bits l.row c ≡ is_under l.limit (cell_at l.square l.row c);
      others : (r c : ℕ) → (r ≡ l.row → ⊥) → has_bit l.bits r c ≡ has_bit l.fn.bits r c;
    }
