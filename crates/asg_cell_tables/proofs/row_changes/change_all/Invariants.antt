use Rattle.asg_cell_tables.proofs.Common.{true, ChangesValues}
use Rattle.asg_cell_tables.proofs.row_changes.change_all.Given as goal

-- the values so far
abbrev pub invariant-loop-k : goal.invariant-loop-k
invariant-loop-k g l = ChangesValues l.fn.values l.values l.start l.from l.k (λ _. true) (goal.F-post g l.change)
