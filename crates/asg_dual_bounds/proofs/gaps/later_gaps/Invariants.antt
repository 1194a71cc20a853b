use Rattle.asg_dual_bounds.proofs.Common.{◌≡◌, ℕ, ◌+◌, ◌<◌, ◌≤◌, ◌⊎◌, [], length, slice_index, IsGapIn, absent, duals_of}
use Rattle.asg_dual_bounds.proofs.gaps.later_gaps.Given as goal

-- the gaps so far, where the room is barred in the columns so far
abbrev pub invariant-rows : goal.invariant-rows
invariant-rows l =
    record {
      room : length l.room ≡ l.table.columns;
      below : (c : ℕ) → c < l.table.columns → slice_index l.room c < absent;
      unbarred : (c : ℕ) → c < l.table.columns → (slice_index l.room c ≤ slice_index l.duals.rises.now c) ⊎ ((r : ℕ) × (r < l.k) × (slice_index l.answer r ≡ c));
      count : length l.gaps ≡ length l.fn.gaps;
      before : (j : ℕ) → j < l.row + 1 → slice_index l.gaps j ≡ slice_index l.fn.gaps j;
      later : (j : ℕ) → l.k ≤ j → slice_index l.gaps j ≡ slice_index l.fn.gaps j;
      gaps : (j : ℕ) → j < l.k → l.row < j → IsGapIn l.table l.answer j [] (duals_of l.duals.falls.now l.duals.rises.now l.duals.floor) (slice_index l.gaps j);
    }
