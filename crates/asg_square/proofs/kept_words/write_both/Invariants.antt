use Rattle.asg_square.proofs.Common.{◌≡◌, ℕ, ◌+◌, ◌<◌, length, slice_index, bit_and}
use Rattle.asg_square.proofs.kept_words.write_both.Given as goal

-- the words so far have the bits of both
abbrev pub invariant-loop-number : goal.invariant-loop-number
invariant-loop-number l =
    record {
      count : length l.both ≡ length l.present;
      done : (n : ℕ) → n < l.number → slice_index l.both n ≡ bit_and (slice_index l.present n) (slice_index l.words (l.first + n));
    }
