use Rattle.asg_dual_bounds.proofs.Common.{◌≡◌, ℕ, ◌<◌, ◌≤◌, length, slice_index, absent}
use Rattle.asg_dual_bounds.proofs.lanes.are_floored.Given as goal

-- the columns so far rise by no less than the floor, and their rises are clipped
abbrev pub invariant-columns : goal.invariant-columns
invariant-columns l =
    record {
      count : length l.low ≡ length l.fn.low;
      each : (c : ℕ) → c < l.column → (slice_index l.low c ≤ slice_index l.after c) × (slice_index l.low c < absent);
      floored : (c : ℕ) → c < l.column → l.floor ≤ slice_index l.after c;
    }
