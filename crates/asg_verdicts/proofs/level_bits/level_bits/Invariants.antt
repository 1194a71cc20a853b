use Rattle.asg_verdicts.proofs.LevelCommon.{◌≡◌, ℕ, ◌<◌, ◌≤◌, None, AreSizedBits, bits_at, value_in}
use Rattle.asg_verdicts.proofs.level_bits.level_bits.Given as goal

-- the rows so far
abbrev pub invariant-loop-row : goal.invariant-loop-row
invariant-loop-row l =
    record {
      end : l.side ≡ l.square.side;
      sized : AreSizedBits l.square.side l.bits;
      done : (r c : ℕ) → r < l.row → c < l.square.side → bits_at l.bits r c ≡ value_in l.square l.walk l.level r c;
      ahead : (r c : ℕ) → l.row ≤ r → bits_at l.bits r c ≡ None;
    }
