use Rattle.asg_check.proofs.Common.{ℕ, ◌<◌, IsOutOfOrderAt}
use Rattle.asg_check.proofs.ranked_answers.first_out_of_order.Given as goal

abbrev pub invariant-loop-place : goal.invariant-loop-place
invariant-loop-place l = (m : ℕ) → m < l.place → ¬ IsOutOfOrderAt l.objective l.answers m
