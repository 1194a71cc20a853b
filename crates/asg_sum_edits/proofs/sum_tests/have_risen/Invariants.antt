use Rattle.asg_sum_edits.proofs.Common.{ℕ, ◌<◌, ◌≤◌, slice_index, most_amount}
use Rattle.asg_sum_edits.proofs.sum_tests.have_risen.Given as goal

-- the numbers so far are no less than before, and not too great
abbrev pub invariant-places : goal.invariant-places
invariant-places l = record {
  risen : (k : ℕ) → k < l.place → slice_index l.before k ≤ slice_index l.after k;
  small : (k : ℕ) → k < l.place → slice_index l.after k ≤ most_amount;
}
