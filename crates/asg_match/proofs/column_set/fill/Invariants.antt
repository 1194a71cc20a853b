use Rattle.asg_match.proofs.Common.{◌≡◌, ℕ, ◌<◌, length, word_count, IsFull}
use Rattle.asg_match.proofs.column_set.fill.Given as goal

-- the words so far are full
abbrev pub invariant-loop-number : goal.invariant-loop-number
invariant-loop-number l =
    record {
      count : length l.words.items ≡ word_count l.side;
      end : l.number-end ≡ word_count l.side;
      full : (i : ℕ) → i < l.number → IsFull l.side l.words.items i;
    }
