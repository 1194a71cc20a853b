use Rattle.asg_bit_rows.proofs.Common.{◌≡◌, ℕ, ◌/◌, ◌<◌, ◌≤◌, word_count, has_bit}
use Rattle.asg_bit_rows.proofs.bit_rows.BitRows.put_columns.Given as goal

-- the words so far are written
abbrev pub invariant-loop-number : goal.invariant-loop-number
invariant-loop-number l =
    record {
      end : l.number-end ≡ word_count l.to;
      rows : l.self.rows ≡ l.fn.self.rows;
      columns : l.self.columns ≡ l.fn.self.columns;
      done : (d : ℕ) → l.from ≤ d → d < l.to → d / 64 < l.number → has_bit l.self l.r d ≡ l.is_set;
      kept : (s d : ℕ) → (s ≡ l.r → l.from ≤ d → d < l.to → d / 64 < l.number → ⊥) → has_bit l.self s d ≡ has_bit l.fn.self s d;
    }
