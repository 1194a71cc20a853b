use Rattle.asg_table_phases.specs.GradedRows.{RowsRise}
use Rattle.asg_table_phases.proofs.graded_tables.all_rise.Given as goal

-- the rows so far rise
abbrev pub invariant-rows : goal.invariant-rows
invariant-rows l = RowsRise l.inst l.enters l.leaves l.limit l.row
