use Rattle.asg_cell_tables.proofs.Common.{ArePlain}
use Rattle.asg_cell_tables.proofs.rows.plain_count.Given as goal

-- the columns so far are plain
abbrev pub invariant-loop-c : goal.invariant-loop-c
invariant-loop-c l = ArePlain l.c l.labels
