use Rattle.asg_phase_totals.proofs.Common.{◌≡◌, ℕ, ◌<◌, ◌≤◌, ◌⊎◌, length, slice_index}
use Rattle.asg_phase_totals.proofs.phase_totals.greatest_of.Given as goal

-- the numbers so far are at most it, and it is one of them or 0
abbrev pub invariant-loop-i : goal.invariant-loop-i
invariant-loop-i g l =
    let N = g.N.SumNumber in
    record {
      above : (j : ℕ) → j < l.i → slice_index (N.numbers l.numbers) j ≤ N.number l.greatest;
      reached : (N.number l.greatest ≡ 0) ⊎ ((j : ℕ) × (j < length l.numbers) × (slice_index (N.numbers l.numbers) j ≡ N.number l.greatest));
    }
