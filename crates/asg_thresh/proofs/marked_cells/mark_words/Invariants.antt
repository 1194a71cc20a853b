use Rattle.asg_thresh.proofs.Common.{◌≡◌, ℕ, ◌*◌, ◌<◌, length, get_or, word_count, IsWordUpTo}
use Rattle.asg_thresh.proofs.marked_cells.mark_words.Given as goal

-- the words so far mark the cells up to the limit
abbrev pub invariant-loop-place : goal.invariant-loop-place
invariant-loop-place l =
    record {
      count : length l.words.items ≡ l.side * word_count l.side;
      end : l.place-end ≡ l.side * word_count l.side;
      done : (i : ℕ) → i < l.place → IsWordUpTo l.grades l.side l.limit i (get_or l.words.items i 0);
    }
