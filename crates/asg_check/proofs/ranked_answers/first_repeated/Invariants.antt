use Rattle.asg_check.proofs.Common.{ℕ, ◌<◌, IsRepeatedAt}
use Rattle.asg_check.proofs.RankedTold.{AreSeen}
use Rattle.asg_check.proofs.ranked_answers.first_repeated.Given as goal

abbrev pub invariant-loop-place : goal.invariant-loop-place
invariant-loop-place l = ((m : ℕ) → m < l.place → ¬ IsRepeatedAt l.answers m) × AreSeen l.answers l.place l.seen
