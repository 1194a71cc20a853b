use Rattle.asg_table_phases.proofs.RowCosts.{row_by_costs, row_by_cells}
use Rattle.asg_table_phases.proofs.table_rows.row_fits.Goals as goal

pub returns-in-Some : goal.returns-in-Some
returns-in-Some c = λ told.
    row_by_cells c.args.objective c.args.inst.now c.columns.ensures.instance c.args.row c.in-Some.cells.now c.in-Some.ensures c.args.columns.now c.args.raise
    (c.cells_fit.ensures told)

pub returns : goal.returns
returns c = λ told.
    row_by_costs c.args.objective c.args.inst.now c.columns.ensures.instance c.args.row c.in-Some-row_parts.parts.firsts.now c.in-Some-row_parts.parts.seconds.now c.in-Some-row_parts.ensures.parts c.args.columns.now c.args.raise
    (c.present_costs_fit.ensures told)
