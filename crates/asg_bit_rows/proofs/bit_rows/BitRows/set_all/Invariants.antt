use Rattle.asg_bit_rows.proofs.Common.{◌≡◌, ℕ, ◌<◌, IsTrue, has_bit}
use Rattle.asg_bit_rows.proofs.bit_rows.BitRows.set_all.Given as goal

-- the rows so far are set
abbrev pub invariant-loop-r : goal.invariant-loop-r
invariant-loop-r l =
    record {
      end : l.r-end ≡ l.fn.self.rows;
      width : l.columns ≡ l.fn.self.columns;
      rows : l.self.rows ≡ l.fn.self.rows;
      columns : l.self.columns ≡ l.fn.self.columns;
      all : (s d : ℕ) → s < l.r → d < l.fn.self.columns → IsTrue (has_bit l.self s d);
    }
