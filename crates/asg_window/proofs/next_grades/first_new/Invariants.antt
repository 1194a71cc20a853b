use Rattle.asg_window.proofs.Common.{◌≡◌, ℕ, ◌<◌, ◌≤◌, length, entry_at, HasColumn, IsRowMarked}
use Rattle.asg_window.proofs.next_grades.first_new.Given as goal

-- no entry so far is new
abbrev pub invariant-loop-place : goal.invariant-loop-place
invariant-loop-place l =
    record {
      end : l.place-end ≡ length l.entries;
      from : l.from ≤ l.place;
      none : (k : ℕ) → l.from ≤ k → k < l.place → IsRowMarked l.reached (entry_at l.entries k).row → HasColumn l.reached.columns.items (entry_at l.entries k).column;
    }
