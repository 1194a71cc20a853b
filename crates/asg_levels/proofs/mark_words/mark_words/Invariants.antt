use Rattle.asg_levels.proofs.Common.{◌≡◌, length, words_each, AreMarkWords}
use Rattle.asg_levels.proofs.mark_words.mark_words.Given as goal

-- the words so far
abbrev pub invariant-loop-place : goal.invariant-loop-place
invariant-loop-place l =
    record {
      width : l.width ≡ words_each l.outs;
      count : length l.words.items ≡ l.place;
      words : AreMarkWords l.outs l.words.items;
    }
