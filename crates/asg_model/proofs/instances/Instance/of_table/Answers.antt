-- The parts and the cells of the table are those of an instance.
use Rattle.asg_model.proofs.Common.{◌^◌, ◌<◌, List, length, All, subst, Column, Row}
use Rattle.asg_model.proofs.Tables.{IsWellFormed-table, cells_ascend}
use Rattle.asg_model.proofs.instances.Instance.of_table.Goals as goal

pub invariant_of-result : goal.invariant_of-result
invariant_of-result c =
    let rows = c.args.rows.items in
    let columns = c.args.columns.items in
    let firsts = c.args.firsts.items in
    let seconds = c.args.seconds.items in
    record {
      instance = record {
        well_formed = IsWellFormed-table rows columns firsts seconds c.args.place c.requires.parts c.requires.table;
        row_ids = subst (λ (rows : List Row). All (λ row. row.id < 2 ^ 32) rows) c.as_slice.ensures.value c.read_row_ids.ensures;
        column_ids = subst (λ (columns : List Column). All (λ column. column.id < 2 ^ 32) columns) c.as_slice-2.ensures.value c.read_column_ids.ensures;
        cells_ascend = cells_ascend (length rows) (length columns) firsts seconds c.requires.table.whole;
      };
      whole = c.requires.table;
    }
