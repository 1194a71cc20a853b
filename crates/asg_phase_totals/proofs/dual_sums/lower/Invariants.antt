use Rattle.asg_phase_totals.proofs.Common.{◌≡◌, ℕ, ◌+◌, ◌<◌, ◌≤◌, min, length, slice_index, sum_before}
use Rattle.asg_phase_totals.proofs.dual_sums.lower.Given as goal

-- the dual variables so far are lessened, and the others stand
abbrev pub invariant-loop-i : goal.invariant-loop-i
invariant-loop-i g l =
    record {
      count : length l.duals.items ≡ length l.fn.duals.items;
      done : (j : ℕ) → j < l.i → slice_index (g.N.SumNumber.numbers l.fn.duals.items) j ≡ slice_index (g.N.SumNumber.numbers l.duals.items) j + sum_before (g.N.SumNumber.numbers l.steps) (min (slice_index l.marks j) (length l.steps));
      rest : (j : ℕ) → l.i ≤ j → slice_index (g.N.SumNumber.numbers l.duals.items) j ≡ slice_index (g.N.SumNumber.numbers l.fn.duals.items) j;
    }
