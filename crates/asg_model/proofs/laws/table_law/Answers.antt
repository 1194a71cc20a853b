use Rattle.asg_model.proofs.Tables.{cost_at-table}
use Rattle.asg_model.proofs.laws.table_law.Goals as goal

pub returns : goal.returns
returns c = cost_at-table
