use Rattle.asg_doc.proofs.Common.{ap, spaced_costs, Wrote-as}
use Rattle.asg_doc.proofs.line_writer.emit_many.Goals as goal

pub returns : goal.returns
returns g c = Wrote-as (ap spaced_costs c.as_slice.ensures) c.emit_costs.ensures
