use Rattle.asg_levels.proofs.Common.{◌≡◌, ℕ, ◌+◌, ◌<◌, ◌≤◌, cond, length, get_or, ◌==◌}
use Rattle.asg_levels.proofs.unit_phases.count_zeros.Given as goal

abbrev pub invariant-loop-place : goal.invariant-loop-place
invariant-loop-place l =
    record {
      count : length l.counts.items ≡ length l.fn.counts.items;
      each : (k : ℕ) → k < l.place → get_or l.counts.items k 0 ≡ get_or l.fn.counts.items k 0 + cond (get_or l.marks k 0 == 0) 1 0;
      rest : (k : ℕ) → l.place ≤ k → get_or l.counts.items k 0 ≡ get_or l.fn.counts.items k 0;
    }
