use Rattle.asg_dual_bounds.proofs.Common.{◌≡◌, ℕ, ◌+◌, ◌<◌, ◌≤◌, length, slice_index, All, number_at, absent, number_of}
use Rattle.asg_dual_bounds.proofs.number_tables.fill_parts.Given as goal

-- the columns so far have their numbers
abbrev pub invariant-columns : goal.invariant-columns
invariant-columns l =
    record {
      count : length l.slots.items ≡ length l.fn.slots.items;
      low : All (λ slot. slot ≤ absent) l.slots.items;
      filled : (c : ℕ) → c < l.column
          → number_of (slice_index l.slots.items (l.start + c)) ≡ number_at l.objective l.inst l.row c;
      before : (k : ℕ) → k < l.start → slice_index l.slots.items k ≡ slice_index l.fn.slots.items k;
    }
