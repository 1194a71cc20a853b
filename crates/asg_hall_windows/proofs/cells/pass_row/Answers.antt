use Rattle.asg_hall_windows.proofs.Common.{length, no_column, ◌<◌, IsTrue, List, get_or, sym, subst, arith, Column, IsPassed}
use Rattle.asg_model.specs.laws.Rows.{row-from_active}
use Rattle.asg_hall_windows.proofs.CellLemmas.{usable_there}
use Rattle.asg_values.specs.laws.LiveCells.{column-from_open, live_cell}
use Rattle.asg_values.specs.laws.RowSlots.{entries, first-at_live, present-at_live}
use Rattle.asg_hall_windows.proofs.cells.pass_row.Goals as goal

pub pass_costs-requires-clause-entries : goal.pass_costs-requires-clause-entries
pass_costs-requires-clause-entries c = entries c.args.inst.now c.args.row _ _ c.in-Some.ensures.parts c.columns.ensures.instance.well_formed.costs

pub returns-in-Some-clause-passed : goal.returns-in-Some-clause-passed
returns-in-Some-clause-passed c all_held col cost live =
    let X = c.args.inst.now in
    let parts = c.in-Some.ensures.parts in
    let cell = live_cell X c.args.row col cost live in
    let within : col < length c.in-Some.parts.firsts.now = omega (arith, column-from_open X col cell.1, parts.whole) in
    let usable = subst (λ (columns : List Column). IsTrue (get_or columns col no_column).usable) (sym c.columns.ensures.columns) (usable_there X col no_column cell.1) in
    subst (IsPassed c.args.table.now.stretches.items c.args.named.now c.args.row c.pass_costs.new.reached col) (first-at_live X c.args.row _ _ parts col cost live)
    (c.pass_costs.ensures.passed all_held col no_column within usable (present-at_live X c.args.row _ _ parts col cost live))

pub returns-in-None-clause-passed : goal.returns-in-None-clause-passed
returns-in-None-clause-passed c _ col cost live =
    let X = c.args.inst.now in
    let below = row-from_active X c.args.row (live_cell X c.args.row col cost live).0 in
    absurd (omega (arith, below, c.row_parts.ensures.past c.in-None.is))
