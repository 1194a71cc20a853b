use Rattle.asg_match.proofs.Common.{ℕ, ◌+◌, ◌*◌, ◌⊎◌, HasBit}
use Rattle.asg_match.proofs.allowed.Allowed.among.Given as goal

-- the bits so far are those that are no longer in the rest
abbrev pub invariant-bits : goal.invariant-bits
invariant-bits g l =
    record {
      rest : (k : ℕ) → HasBit l.rest k → HasBit l.columns k;
      word : (k : ℕ) → HasBit l.word k → HasBit l.columns k × g.Self.Allowed.allows l.self l.r (64 * l.number + k);
      done : (k : ℕ) → HasBit l.columns k → g.Self.Allowed.allows l.self l.r (64 * l.number + k) → HasBit l.rest k ⊎ HasBit l.word k;
    }

abbrev pub decreases-bits : goal.decreases-bits
decreases-bits g l = l.rest
