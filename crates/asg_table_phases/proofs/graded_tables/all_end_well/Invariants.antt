use Rattle.asg_table_phases.specs.GradedRows.{RowsEnd}
use Rattle.asg_table_phases.proofs.graded_tables.all_end_well.Given as goal

-- the rows so far end well
abbrev pub invariant-rows : goal.invariant-rows
invariant-rows l = RowsEnd l.inst l.rows l.columns l.limit l.row
