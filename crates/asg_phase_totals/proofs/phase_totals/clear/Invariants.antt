use Rattle.asg_phase_totals.proofs.Common.{◌≡◌, ℕ, ◌<◌, length, slice_index}
use Rattle.asg_phase_totals.proofs.phase_totals.clear.Given as goal

-- the numbers so far are 0
abbrev pub invariant-loop-i : goal.invariant-loop-i
invariant-loop-i g l = record {
  count : length l.numbers.items ≡ length l.fn.numbers.items;
  each : (j : ℕ) → j < l.i → slice_index (g.N.SumNumber.numbers l.numbers.items) j ≡ 0;
}
