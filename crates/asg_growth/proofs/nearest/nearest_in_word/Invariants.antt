use Rattle.asg_growth.proofs.Common.{◌%◌, [], leads_of, lead_at, Picks, IsWithin, IsAmong, HasBit}
use Rattle.asg_growth.proofs.nearest.nearest_in_word.Given as goal

-- the columns whose bits are no longer in the rest were looked at
abbrev pub invariant-columns : goal.invariant-columns
invariant-columns g l =
    record {
      unseen : IsAmong l.rest l.number l.unseen;
      keyed : IsAmong l.rest l.number l.keyed;
      picks : Picks (g.M.Ordered.monoid_of l.m) (lead_at (g.M.Ordered.monoid_of l.m) (leads_of l.keys l.keyed [])) (λ k. IsWithin l.number l.unseen k × (HasBit l.rest (k % 64) → ⊥)) l.nearest;
    }

abbrev pub decreases-columns : goal.decreases-columns
decreases-columns g l = l.rest
