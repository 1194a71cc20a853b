use Rattle.asg_cell_tables.proofs.Common.{ℕ, ◌<◌, IsTrue, is_open}
use Rattle.asg_cell_tables.proofs.rows.are_all_open.Given as goal

-- the columns so far are open
abbrev pub invariant-loop-column : goal.invariant-loop-column
invariant-loop-column l = (k : ℕ) → k < l.column-index → IsTrue (is_open l.inst k)
