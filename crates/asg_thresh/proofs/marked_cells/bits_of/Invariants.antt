use Rattle.asg_thresh.proofs.Common.{AreBitsUpTo}
use Rattle.asg_thresh.proofs.marked_cells.bits_of.Given as goal

-- the bits of the grades so far
abbrev pub invariant-loop-place : goal.invariant-loop-place
invariant-loop-place l = AreBitsUpTo l.grades l.place l.limit l.word
