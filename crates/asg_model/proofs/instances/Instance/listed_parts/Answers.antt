use Rattle.asg_model.proofs.Common.{arith}
use Rattle.asg_model.proofs.instances.Instance.listed_parts.Goals as goal

pub read-requires-clause-within : goal.read-requires-clause-within
read-requires-clause-within c = λ k d within. omega (arith, c.in_ok-cells.ensures.cells.within k d within, c.columns-columns.ensures.instance.well_formed.few_columns)
