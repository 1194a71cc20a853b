use Rattle.asg_dual_bounds.proofs.Common.{◌≡◌, ℕ, ◌<◌, ◌≤◌, length, slice_index, absent}
use Rattle.asg_dual_bounds.proofs.lanes.clip.Given as goal

-- the rises so far are clipped
abbrev pub invariant-columns : goal.invariant-columns
invariant-columns l =
    record {
      count : length l.low ≡ length l.fn.low;
      each : (c : ℕ) → c < l.column → (slice_index l.low c ≤ slice_index l.rises c) × (slice_index l.low c < absent);
    }
