use Rattle.asg_table_phases.proofs.Common.{◌≡◌, ℕ, ◌<◌, ◌≤◌, length, capacity_at, first_copy}
use Rattle.asg_table_phases.proofs.graded_tables.are_single.Given as goal

-- the columns so far have one copy each
abbrev pub invariant-columns : goal.invariant-columns
invariant-columns l = record {
  within : l.column ≤ length l.inst.columns;
  next : first_copy l.inst l.column ≡ l.column;
  first : (d : ℕ) → d < l.column → first_copy l.inst d ≡ d;
  one : (d : ℕ) → d < l.column → capacity_at l.inst d ≡ 1;
}
