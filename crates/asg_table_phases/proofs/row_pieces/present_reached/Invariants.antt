use Rattle.asg_table_phases.proofs.Common.{ℕ, ◌<◌, ◌≤◌, ◌≢◌, pos, ◌+ℤ◌, ◌≤ℤ◌, IsTrue, slice_index, slice_index_or, absent}
use Rattle.asg_table_phases.proofs.row_pieces.present_reached.Given as goal

-- the columns so far have cells that are at least their numbers, where they are there, and numbers
-- up to the cap
abbrev pub invariant-columns : goal.invariant-columns
invariant-columns l =
    IsTrue l.are_reached → (k : ℕ) → l.fn.from ≤ k → k < l.column → slice_index_or l.costs k absent ≢ absent
    → (slice_index l.columns k ≤ l.cap) × (pos (slice_index l.columns k) ≤ℤ (slice_index_or l.costs k absent +ℤ pos l.raise))
