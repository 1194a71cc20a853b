use Rattle.asg_values.proofs.Common.{◌≡◌, ℕ, ◌<◌, false, is_refused_at}
use Rattle.asg_values.proofs.negatives.negative.Given as goal

abbrev pub invariant-loop-place : goal.invariant-loop-place
invariant-loop-place l = (r c : ℕ) → r < l.place → is_refused_at l.objective l.inst r c ≡ false
