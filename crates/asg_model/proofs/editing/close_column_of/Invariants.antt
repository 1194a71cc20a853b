use Rattle.asg_model.proofs.Common.{◌≡◌, ◌++◌, map, take, drop, closed}
use Rattle.asg_model.proofs.editing.close_column_of.Given as goal

-- those so far are done
abbrev pub invariant-loop-column : goal.invariant-loop-column
invariant-loop-column l = l.columns ≡ map (closed l.id) (take l.column-index l.fn.columns) ++ drop l.column-index l.fn.columns
