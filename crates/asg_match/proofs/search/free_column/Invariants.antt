use Rattle.asg_match.proofs.Common.{◌≡◌, ◌^◌, ◌<◌, length, word_count}
use Rattle.asg_match.proofs.search.free_column.Given as goal

-- the words are those of all columns
abbrev pub invariant-loop-number : goal.invariant-loop-number
invariant-loop-number g l =
    record {
      end : l.number-end ≡ word_count (length l.matching);
      fits : length l.matching < 2 ^ 32;
    }
