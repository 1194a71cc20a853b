use Rattle.asg_values.proofs.BottleneckLaw.{best_law}
use Rattle.asg_values.proofs.laws.best_bottleneck_law.Goals as goal

pub returns : goal.returns
returns c = best_law
