use Rattle.asg_model.proofs.Common.{◌≡◌, ◌++◌, map, take, drop, dropped}
use Rattle.asg_model.proofs.editing.drop_row_of.Given as goal

-- those so far are done
abbrev pub invariant-loop-row : goal.invariant-loop-row
invariant-loop-row l = l.rows ≡ map (dropped l.id) (take l.row-index l.fn.rows) ++ drop l.row-index l.fn.rows
