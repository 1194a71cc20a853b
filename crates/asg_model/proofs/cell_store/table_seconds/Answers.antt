-- The cut is that of the row.
use Rattle.asg_model.proofs.Common.{◌*◌}
use Rattle.asg_model.proofs.TableRows.{seconds_of_row}
use Rattle.asg_model.proofs.cell_store.table_seconds.Goals as goal

pub returns : goal.returns
returns c d within = seconds_of_row c.args.columns c.args.seconds.now (c.args.row * c.args.columns) c.min.result c.min-2.result d c.min.ensures c.min-2.ensures within
