use Rattle.asg_duals.proofs.Common.{ℕ, ◌+◌, ◌<◌, length, HasBit, Reaches}
use Rattle.asg_duals.proofs.tightness.set_are_above.Given as goal

-- the bits that are left are the word's, and the columns of those that are left no more are at
-- least the fall
abbrev pub invariant-bits : goal.invariant-bits
invariant-bits l =
    record {
      left : (k : ℕ) → HasBit l.rest k → HasBit l.word k;
      passed : (k : ℕ) → HasBit l.word k → (HasBit l.rest k → ⊥) → l.first + k < length l.values → Reaches l.values l.rises l.fall (l.first + k);
    }

abbrev pub decreases-bits : goal.decreases-bits
decreases-bits l = l.rest
