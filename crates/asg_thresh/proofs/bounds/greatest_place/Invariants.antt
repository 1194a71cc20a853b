use Rattle.asg_thresh.proofs.Common.{◌<◌, length}
use Rattle.asg_thresh.proofs.bounds.greatest_place.Given as goal

abbrev pub invariant-loop-place : goal.invariant-loop-place
invariant-loop-place l = l.greatest < length l.numbers
