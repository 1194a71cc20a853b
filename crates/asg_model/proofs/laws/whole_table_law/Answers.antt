-- The parts and the cells of a whole table are those of an instance.
use Rattle.asg_model.proofs.Common.{length}
use Rattle.asg_model.proofs.Tables.{IsWellFormed-table, cells_ascend}
use Rattle.asg_model.proofs.laws.whole_table_law.Goals as goal

pub returns : goal.returns
returns c = λ rows columns firsts seconds place parts row_ids column_ids table. record {
  well_formed = IsWellFormed-table rows columns firsts seconds place parts table;
  row_ids = row_ids;
  column_ids = column_ids;
  cells_ascend = cells_ascend (length rows) (length columns) firsts seconds table.whole;
}
