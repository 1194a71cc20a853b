use Rattle.asg_table_phases.proofs.Common.{◌≡◌, ℕ, ◌<◌, ◌≤◌, length, slice_index, most_columns, narrow_top}
use Rattle.asg_table_phases.proofs.narrow_tops.put_narrow.Given as goal

-- the numbers so far are written, and none is above where sums in 64 bits stop
abbrev pub invariant-columns : goal.invariant-columns
invariant-columns l = record {
  count : length l.narrow ≡ most_columns;
  low : (k : ℕ) → k < l.column → slice_index l.narrow k ≤ narrow_top;
  same : (k : ℕ) → k < l.column → slice_index l.tops k ≤ slice_index l.narrow k;
}
