use Rattle.asg_dual_bounds.proofs.Common.{◌≡◌, ℕ, ◌+◌, ◌*◌, ◌<◌, ◌≤◌, length, slice_index, All, number_at, absent, number_of}
use Rattle.asg_dual_bounds.proofs.number_tables.NumberTable.of.Given as goal

-- the rows so far have their numbers
abbrev pub invariant-rows : goal.invariant-rows
invariant-rows l =
    record {
      whole : length l.slots.items ≡ l.rows * l.columns;
      low : All (λ slot. slot ≤ absent) l.slots.items;
      filled : (r c : ℕ) → r < l.row → c < l.columns
          → number_of (slice_index l.slots.items (r * l.columns + c)) ≡ number_at l.objective l.inst r c;
    }
