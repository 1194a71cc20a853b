use Rattle.asg_phase_totals.proofs.Common.{ℕ, ◌<◌, ◌≤◌, slice_index}
use Rattle.asg_phase_totals.proofs.phase_totals.are_ordered.Given as goal

-- the columns so far are at least the greatest number of a row
abbrev pub invariant-loop-k : goal.invariant-loop-k
invariant-loop-k g l =
    let N = g.N.SumNumber in
    (j : ℕ) → j < l.k → N.number l.greatest ≤ slice_index (N.numbers l.columns) j
