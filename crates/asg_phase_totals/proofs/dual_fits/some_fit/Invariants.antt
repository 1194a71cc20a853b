use Rattle.asg_phase_totals.proofs.Common.{ℕ, ◌+◌, HasBit, FitsAt}
use Rattle.asg_phase_totals.proofs.dual_fits.some_fit.Given as goal

-- the bits that are left are the word's, and the cells of those that are left no more do so
abbrev pub invariant-bits : goal.invariant-bits
invariant-bits g l =
    let N = g.N.SumNumber in
    record {
      left : (i : ℕ) → HasBit l.rest i → HasBit l.word i;
      passed : (i : ℕ) → HasBit l.word i → (HasBit l.rest i → ⊥) → FitsAt (N.numbers l.values) (N.numbers l.columns) (N.number l.raise) (l.first + i);
    }

abbrev pub decreases-bits : goal.decreases-bits
decreases-bits g l = l.rest
