use Rattle.asg_admit.proofs.Common.{ℕ, ◌+◌, slice_get, slice_index, AllowsAt, HasBit}
use Rattle.asg_admit.proofs.row_cells.bits_allow.Given as goal

-- the bits that are left are the word's, and the cells of those that are left no more allow the
-- steps
abbrev pub invariant-bits : goal.invariant-bits
invariant-bits g l =
    record {
      left : (i : ℕ) → HasBit l.rest i → HasBit l.word i;
      passed : (i : ℕ) → HasBit l.word i → (HasBit l.rest i → ⊥) → AllowsAt (g.M.Ordered.monoid_of l.m) (g.M.DMonoid.difference l.m) l.steps l.enter (slice_index l.leaves (l.first + i)) (slice_get l.values (l.first + i));
    }

abbrev pub decreases-bits : goal.decreases-bits
decreases-bits g l = l.rest
