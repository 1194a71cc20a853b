use Rattle.asg_check.proofs.Common.{ℕ, ◌<◌, IsNoChoiceAt}
use Rattle.asg_check.proofs.ranked_answers.first_unspelled.Given as goal

abbrev pub invariant-loop-place : goal.invariant-loop-place
invariant-loop-place l = (m : ℕ) → m < l.place → ¬ IsNoChoiceAt l.inst l.answers m
