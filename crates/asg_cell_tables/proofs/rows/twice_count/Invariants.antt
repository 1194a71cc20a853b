use Rattle.asg_cell_tables.proofs.Common.{AreTwice}
use Rattle.asg_cell_tables.proofs.rows.twice_count.Given as goal

-- the columns so far are copies twice each
abbrev pub invariant-loop-c : goal.invariant-loop-c
invariant-loop-c l = AreTwice l.c l.labels
