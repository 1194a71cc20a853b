use Rattle.asg_table_phases.proofs.Common.{IsTrue}
use Rattle.asg_table_phases.specs.GradedRows.{FirstsRise}
use Rattle.asg_table_phases.proofs.graded_rows.firsts_rise.Given as goal

-- none of the first parts so far is lower
abbrev pub invariant-columns : goal.invariant-columns
invariant-columns l = IsTrue l.rise → FirstsRise l.firsts l.leaves l.limit l.column
