use Rattle.asg_table_phases.proofs.Common.{ℕ, ◌<◌, SumPair, slice_index, FitsRow}
use Rattle.asg_table_phases.proofs.pair_rows.pair_rows_fit.Given as goal

-- the rows so far do so
abbrev pub invariant-rows : goal.invariant-rows
invariant-rows l = (r : ℕ) → r < l.row → FitsRow SumPair l.inst l.columns (slice_index l.rows r) r
