use Rattle.asg_levels.proofs.Common.{◌≡◌, ℕ, ◌/◌, ◌%◌, ◌<◌, ◌≤◌, not, ◌&&◌, has_bit, is_bit_set}
use Rattle.asg_levels.proofs.next_step.clear_word.Given as goal

-- the rows so far
abbrev pub invariant-loop-row : goal.invariant-loop-row
invariant-loop-row l =
    record {
      rows : l.marks.rows ≡ l.fn.marks.rows;
      columns : l.marks.columns ≡ l.fn.marks.columns;
      end : l.row-end ≡ l.fn.marks.rows;
      here : (r c : ℕ) → r < l.row → c / 64 ≡ l.number → has_bit l.marks r c ≡ (has_bit l.fn.marks r c && not (is_bit_set l.left (c % 64)));
      later : (r c : ℕ) → l.row ≤ r → has_bit l.marks r c ≡ has_bit l.fn.marks r c;
      others : (r c : ℕ) → (c / 64 ≡ l.number → ⊥) → has_bit l.marks r c ≡ has_bit l.fn.marks r c;
    }
