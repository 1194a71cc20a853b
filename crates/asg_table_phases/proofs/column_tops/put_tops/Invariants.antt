use Rattle.asg_table_phases.proofs.Common.{◌≡◌, ℕ, ◌*◌, ◌<◌, ◌≤◌, Some, length, slice_index, most_columns, column_label, first_copy}
use Rattle.asg_table_phases.proofs.column_tops.put_tops.Given as goal

-- the copies so far end here, and their columns have their greatest numbers
abbrev pub invariant-columns : goal.invariant-columns
invariant-columns l = record {
  within : l.column ≤ length l.inst.columns;
  count : length l.tops ≡ most_columns;
  few : l.first ≤ 1000 * l.column;
  first : l.first ≡ first_copy l.inst l.column;
  tops : (k d : ℕ) → d < l.column → k < length l.numbers → column_label l.inst k ≡ Some d → slice_index l.numbers k ≤ slice_index l.tops d;
}
