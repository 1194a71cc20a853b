use Rattle.asg_phase_totals.proofs.Common.{◌≡◌, ℕ, ◌+◌, ◌<◌, ◌≤◌, length, slice_index}
use Rattle.asg_phase_totals.proofs.segments.lower_by.Given as goal

-- the numbers so far are less by the part, and the others as they were
abbrev pub invariant-loop-i : goal.invariant-loop-i
invariant-loop-i g l =
    let N = g.N.SumNumber in
    record {
      count : length l.numbers.items ≡ length l.fn.numbers.items;
      done : (j : ℕ) → j < l.i → slice_index (N.numbers l.numbers.items) j + slice_index (N.numbers l.part) j ≡ slice_index (N.numbers l.fn.numbers.items) j;
      rest : (j : ℕ) → l.i ≤ j → slice_index (N.numbers l.numbers.items) j ≡ slice_index (N.numbers l.fn.numbers.items) j;
    }
