use Rattle.asg_model.proofs.Common.{take}
use Rattle.asg_model.specs.CellLists.{IsTableOf}
use Rattle.asg_model.proofs.cell_lists.table_of.Given as goal

-- the table has the cells so far
abbrev pub invariant-loop-cell : goal.invariant-loop-cell
invariant-loop-cell l =
    IsTableOf l.rows l.columns (take l.cell-index l.cells) l.firsts.items l.seconds.items
