use Rattle.asg_check.proofs.Common.{ℕ, ◌<◌, IsNoHallAt}
use Rattle.asg_check.proofs.window_verdicts.first_no_hall.Given as goal

abbrev pub invariant-loop-place : goal.invariant-loop-place
invariant-loop-place l = (m : ℕ) → m < l.place → ¬ IsNoHallAt l.inst l.windows m
