-- The cells of the table are in order.
use Rattle.asg_model.proofs.Common.{on_ok_weaker}
use Rattle.asg_model.proofs.Tables.{cells_ascend}
use Rattle.asg_model.proofs.cell_store.CellStore.put.Goals as goal

pub returns-in_ok-put_in_whole-in-Listed-clause-ordered : goal.returns-in_ok-put_in_whole-in-Listed-clause-ordered
returns-in_ok-put_in_whole-in-Listed-clause-ordered c =
    cells_ascend c.args.rows c.args.columns c.put_in_whole.new.firsts.items c.put_in_whole.new.seconds.items c.put_in_whole.ensures.table.whole

pub returns-in-Table-clause-ordered : goal.returns-in-Table-clause-ordered
returns-in-Table-clause-ordered c =
    on_ok_weaker c.put_in_whole-in-Table.result
    (λ _. cells_ascend c.args.rows c.args.columns c.put_in_whole-in-Table.new.firsts.items c.put_in_whole-in-Table.new.seconds.items c.put_in_whole-in-Table.ensures.table.whole)
    c.put_in_whole-in-Table.ensures.put
