use Rattle.asg_table_phases.proofs.Common.{IsTrue}
use Rattle.asg_table_phases.specs.GradedRows.{CostsBelow, CostsReach}
use Rattle.asg_table_phases.proofs.graded_rows.costs_end_well.Given as goal

-- the costs so far end well
abbrev pub invariant-columns : goal.invariant-columns
invariant-columns l = record {
  at : IsTrue l.end_well → CostsReach l.firsts l.seconds l.columns l.limit l.raise l.column;
  below : IsTrue l.end_well → CostsBelow l.firsts l.columns l.limit l.raise l.column;
}
