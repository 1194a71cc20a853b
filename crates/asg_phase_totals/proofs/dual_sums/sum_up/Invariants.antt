use Rattle.asg_phase_totals.proofs.Common.{◌≡◌, ℕ, ◌≤◌, length, slice_index, sum_before}
use Rattle.asg_phase_totals.proofs.dual_sums.sum_up.Given as goal

-- the sums so far
abbrev pub invariant-loop-t : goal.invariant-loop-t
invariant-loop-t g l =
    record {
      room : length l.sums ≡ length l.fn.sums;
      sums : (i : ℕ) → i ≤ l.t → slice_index (g.N.SumNumber.numbers l.sums) i ≡ sum_before (g.N.SumNumber.numbers l.steps) i;
    }
