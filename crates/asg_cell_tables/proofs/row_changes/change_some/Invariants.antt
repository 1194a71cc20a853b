use Rattle.asg_cell_tables.proofs.Common.{◌-◌, is_bit_set, ChangesValues}
use Rattle.asg_cell_tables.proofs.row_changes.change_some.Given as goal

-- the values so far
abbrev pub invariant-loop-k : goal.invariant-loop-k
invariant-loop-k g l = ChangesValues l.fn.values l.values l.start l.from l.k (λ k. is_bit_set l.word (k - l.from)) (goal.F-post g l.change)
