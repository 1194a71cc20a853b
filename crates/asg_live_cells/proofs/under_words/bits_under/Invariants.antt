use Rattle.asg_live_cells.proofs.UnderLemmas.{IsUnderMask}
use Rattle.asg_live_cells.proofs.under_words.bits_under.Given as goal

-- the bits of the grades so far
abbrev pub invariant-loop-place : goal.invariant-loop-place
invariant-loop-place l = IsUnderMask l.grades l.limit l.place l.word
