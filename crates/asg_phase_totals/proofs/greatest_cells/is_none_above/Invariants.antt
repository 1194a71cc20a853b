use Rattle.asg_phase_totals.proofs.Common.{ℕ, ◌<◌, ◌≤◌, slice_index}
use Rattle.asg_phase_totals.proofs.greatest_cells.is_none_above.Given as goal

-- none so far is greater
abbrev pub invariant-loop-k : goal.invariant-loop-k
invariant-loop-k g l =
    let N = g.N.SumNumber in
    (i : ℕ) → i < l.k → slice_index (N.numbers l.values) i ≤ N.number l.most
