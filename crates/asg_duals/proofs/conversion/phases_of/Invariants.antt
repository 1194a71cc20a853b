use Rattle.asg_duals.proofs.Common.{◌≡◌, ℕ, ◌^◌, ◌<◌, ◌≤◌, length}
use Rattle.asg_duals.proofs.conversion.phases_of.Given as goal

-- there are so many phases that the limit is this power of 2, and the powers before it are within
-- the side
abbrev pub invariant-phases : goal.invariant-phases
invariant-phases l =
    record {
      limit : l.limit ≡ 2 ^ length l.phases.items;
      few : (k : ℕ) → k < length l.phases.items → 2 ^ k ≤ l.fn.side;
    }
