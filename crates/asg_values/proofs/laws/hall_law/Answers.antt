use Rattle.asg_values.proofs.HallLaw.{hall_law}
use Rattle.asg_values.proofs.laws.hall_law.Goals as goal

pub returns : goal.returns
returns c = hall_law
