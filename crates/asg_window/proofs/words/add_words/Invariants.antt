use Rattle.asg_window.proofs.Common.{◌≡◌, ℕ, ◌<◌, ◌≤◌, ◌⊎◌, ◌↔◌, length, get_or, HasBit}
use Rattle.asg_window.proofs.words.add_words.Given as goal

-- the words so far have both bits, the others are as they were
abbrev pub invariant-loop-number : goal.invariant-loop-number
invariant-loop-number l =
    record {
      end : l.number-end ≡ length l.fn.columns.items;
      count : length l.columns.items ≡ length l.fn.columns.items;
      bits : (i k : ℕ) → i < l.number → HasBit (get_or l.columns.items i 0) k ↔ (HasBit (get_or l.fn.columns.items i 0) k ⊎ HasBit (get_or l.words i 0) k);
      rest : (i : ℕ) → l.number ≤ i → get_or l.columns.items i 0 ≡ get_or l.fn.columns.items i 0;
    }
