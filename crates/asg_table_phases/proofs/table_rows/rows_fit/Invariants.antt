use Rattle.asg_table_phases.proofs.Common.{ℕ, ◌<◌, slice_index, FitsRow}
use Rattle.asg_table_phases.proofs.table_rows.rows_fit.Given as goal

-- the rows so far do so
abbrev pub invariant-rows : goal.invariant-rows
invariant-rows l = (r : ℕ) → r < l.row → FitsRow l.objective l.inst l.columns (slice_index l.rows r) r
