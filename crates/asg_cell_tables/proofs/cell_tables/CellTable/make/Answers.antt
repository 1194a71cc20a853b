use Rattle.asg_cell_tables.proofs.Common.{◌≡◌, ◌*◌, length, rules, IsStored}
use Rattle.asg_cell_tables.proofs.TableLemmas.{is_table}
use Rattle.asg_cell_tables.proofs.cell_tables.CellTable.make.Goals as goal

pub returns-clause-table : goal.returns-clause-table
returns-clause-table g c =
    let count : length c.in_ok-values.values.items ≡ c.args.side * c.args.side = search rules in
    let stored : IsStored c.args.side c.in_ok-values.values.items c.in_ok-present.present = record {
      few = c.requires;
      count = count;
      rows = c.in_ok-present.ensures.rows;
      columns = c.in_ok-present.ensures.columns;
    } in
    is_table c.args.side c.in_ok-values.values.items c.in_ok-present.present stored
