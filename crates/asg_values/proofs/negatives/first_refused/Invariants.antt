use Rattle.asg_values.proofs.Common.{◌≡◌, ℕ, ◌<◌, false, is_refused_at}
use Rattle.asg_values.proofs.negatives.first_refused.Given as goal

abbrev pub invariant-loop-place : goal.invariant-loop-place
invariant-loop-place l = (c : ℕ) → c < l.place → is_refused_at l.objective l.inst l.row c ≡ false
