use Rattle.asg_admit.proofs.Common.{◌≡◌, ℕ, ◌+◌, slice_get, Some, HasBit, IsLe}
use Rattle.asg_admit.proofs.lesser_cells.bits_below.Given as goal

-- the bits that are left are the word's, and of its bits none whose value is less is gone
abbrev pub invariant-bits : goal.invariant-bits
invariant-bits g l =
    record {
      left : (i : ℕ) → HasBit l.rest i → HasBit l.word i;
      inside : (i : ℕ) → HasBit l.below i → HasBit l.word i;
      gone : (i : ℕ) (x : g.row.M-Value.Denot) → HasBit l.word i → (HasBit l.below i → ⊥) → slice_get l.values (l.first + i) ≡ Some x → IsLe (g.M.Ordered.monoid_of l.m) l.least x;
    }

abbrev pub decreases-bits : goal.decreases-bits
decreases-bits g l = l.rest
