use Rattle.asg_verdicts.proofs.LevelCommon.{◌≡◌, ℕ, ◌*◌, ◌<◌, ◌≤◌, None, word_count, AreSizedBits, bits_at, value_in}
use Rattle.asg_verdicts.proofs.level_bits.split_row.Given as goal

-- the words so far
abbrev pub invariant-loop-number : goal.invariant-loop-number
invariant-loop-number l =
    record {
      end : l.number-end ≡ word_count l.square.side;
      sized : AreSizedBits l.square.side l.bits;
      done : (c : ℕ) → c < 64 * l.number → c < l.square.side → bits_at l.bits l.row c ≡ value_in l.square l.walk l.level l.row c;
      ahead : (c : ℕ) → 64 * l.number ≤ c → bits_at l.bits l.row c ≡ None;
      others : (r c : ℕ) → (r ≡ l.row → ⊥) → bits_at l.bits r c ≡ bits_at l.fn.bits r c;
    }
