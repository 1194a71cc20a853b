use Rattle.asg_window.proofs.Common.{◌≡◌, ℕ, ◌<◌, length, get_or, IsTrue, has_bit, HasColumn, IsColumnOf, HasRoom, IsRowMarked}
use Rattle.asg_window.proofs.next_grades.Reached.take.Given as goal

-- the rows so far are marked
abbrev pub invariant-loop-place : goal.invariant-loop-place
invariant-loop-place l =
    record {
      end : l.place-end ≡ length l.rows;
      room : HasRoom l.band.marks.side l.self;
      marked : (k : ℕ) → k < l.place → IsRowMarked l.self (get_or l.rows k 0);
      columns : (c : ℕ) → HasColumn l.self.columns.items c → IsColumnOf (λ r d. IsTrue (has_bit l.band.marks.bits r d)) l.rows c;
    }
