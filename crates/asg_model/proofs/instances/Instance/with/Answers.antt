-- The parts are those of an instance.
use Rattle.asg_model.proofs.Common.{◌^◌, ◌<◌, List, All, subst, Column, Row}
use Rattle.asg_model.proofs.instances.Instance.with.Goals as goal

pub invariant_of-result : goal.invariant_of-result
invariant_of-result c = record {
  instance = record {
    well_formed = c.requires;
    row_ids = subst (λ (rows : List Row). All (λ row. row.id < 2 ^ 32) rows) c.as_slice.ensures.value c.read_row_ids.ensures;
    column_ids = subst (λ (columns : List Column). All (λ column. column.id < 2 ^ 32) columns) c.as_slice-2.ensures.value c.read_column_ids.ensures;
    cells_ascend = c.len-size.ensures.ordered;
  };
  whole = tt;
}
