use Rattle.asg_lex.proofs.Common.{◌≡◌, ℕ, ◌<◌, has_bit, is_under, cell_at}
use Rattle.asg_lex.proofs.starts.mark_under.Given as goal

-- the rows so far
abbrev pub invariant-loop-row : goal.invariant-loop-row
invariant-loop-row l =
    record {
      side : l.marks.side ≡ l.square.side;
      rows : l.marks.bits.rows ≡ l.square.side;
      columns : l.marks.bits.columns ≡ l.square.side;
      done : (r c : ℕ) → r < l.row → c < l.square.side → has_bit l.marks.bits r c ≡ is_under l.limit (cell_at l.square r c);
    }
