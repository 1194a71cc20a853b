use Rattle.asg_dual_bounds.proofs.Common.{◌≡◌, ℕ, ◌+◌, ◌<◌, ◌≤◌, ◌⊎◌, length, slice_index}
use Rattle.asg_dual_bounds.proofs.lanes.lessen.Given as goal

-- the columns so far are lessened, and none has more than before
abbrev pub invariant-columns : goal.invariant-columns
invariant-columns l =
    record {
      count : length l.leasts ≡ length l.fn.leasts;
      less : (c : ℕ) → slice_index l.leasts c ≤ slice_index l.fn.leasts c;
      each : (c : ℕ) → c < l.column → (slice_index l.leasts c ≡ 0) ⊎ (l.base + slice_index l.leasts c ≤ slice_index l.slots c + slice_index l.low c);
    }
