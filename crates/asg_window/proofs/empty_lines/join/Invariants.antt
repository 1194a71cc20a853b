use Rattle.asg_window.proofs.Common.{◌≡◌, ℕ, ◌<◌, length, IsTrue, has_bit, HasColumn}
use Rattle.asg_window.proofs.empty_lines.join.Given as goal

-- the columns have those of the rows so far
abbrev pub invariant-loop-row : goal.invariant-loop-row
invariant-loop-row l =
    record {
      count : length l.columns.items ≡ length l.fn.columns.items;
      all : (r c : ℕ) → r < l.row → IsTrue (has_bit l.bits r c) → HasColumn l.columns.items c;
    }
