use Rattle.asg_values.proofs.BottleneckLaw.{whole_law}
use Rattle.asg_values.proofs.laws.infeasible_law.Goals as goal

pub returns : goal.returns
returns c = whole_law
