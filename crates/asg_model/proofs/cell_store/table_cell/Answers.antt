-- The cost in a table is that at the index of the place; past the last column there is none.
use Rattle.asg_model.proofs.Common.{sym, ◌∙◌}
use Rattle.asg_model.proofs.Tables.{cost_at-table, cost_at-past}
use Rattle.asg_model.proofs.cell_store.table_cell.Goals as goal

pub returns-then-col-columns : goal.returns-then-col-columns
returns-then-col-columns c =
    c.table_cost.ensures ∙ sym (cost_at-table c.args.columns c.args.firsts.now c.args.seconds.now c.args.row c.args.col c.if-col-columns.true)

pub returns-else-col-columns : goal.returns-else-col-columns
returns-else-col-columns c =
    sym (cost_at-past c.args.rows c.args.columns c.args.firsts.now c.args.seconds.now c.args.row c.args.col c.requires.whole c.if-col-columns.false)
