use Rattle.asg_levels.proofs.ZeroBits.{IsZeroMask}
use Rattle.asg_levels.proofs.next_step.zero_bits.Given as goal

-- the bits of the numbers so far
abbrev pub invariant-loop-place : goal.invariant-loop-place
invariant-loop-place l = IsZeroMask l.numbers l.place l.word
