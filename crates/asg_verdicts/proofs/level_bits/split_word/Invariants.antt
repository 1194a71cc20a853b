use Rattle.asg_verdicts.proofs.LevelCommon.{◌≡◌, ℕ, ◌+◌, ◌*◌, ◌<◌, ◌≤◌, AreSizedBits, KeepsOthers, bits_at, value_in}
use Rattle.asg_verdicts.proofs.level_bits.split_word.Given as goal

-- the columns of the word so far
abbrev pub invariant-loop-column : goal.invariant-loop-column
invariant-loop-column l =
    record {
      within : l.to ≤ l.square.side;
      last : l.to ≤ 64 * l.number + 64;
      whole : (c : ℕ) → c < 64 * l.number + 64 → c < l.square.side → c < l.to;
      upto : l.column ≤ 64 * l.number + 64;
      sized : AreSizedBits l.square.side l.bits;
      done : (c : ℕ) → 64 * l.number ≤ c → c < l.column → bits_at l.bits l.row c ≡ value_in l.square l.walk l.level l.row c;
      others : KeepsOthers l.fn.bits l.bits l.row (64 * l.number) l.column;
    }
