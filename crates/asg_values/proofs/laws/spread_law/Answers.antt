use Rattle.asg_values.proofs.SpreadLaw.{spread_law}
use Rattle.asg_values.proofs.laws.spread_law.Goals as goal

pub returns : goal.returns
returns c = spread_law
