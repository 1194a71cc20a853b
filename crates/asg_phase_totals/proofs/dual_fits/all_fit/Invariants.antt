use Rattle.asg_phase_totals.proofs.Common.{ℕ, ◌<◌, ◌↔◌, IsTrue, FitsAt}
use Rattle.asg_phase_totals.proofs.dual_fits.all_fit.Given as goal

-- whether the cells so far do so
abbrev pub invariant-loop-k : goal.invariant-loop-k
invariant-loop-k g l =
    let N = g.N.SumNumber in
    IsTrue l.fits ↔ ((i : ℕ) → i < l.k → FitsAt (N.numbers l.values) (N.numbers l.columns) (N.number l.raise) i)
