use Rattle.asg_values.proofs.BottleneckLaw.{best_max_law}
use Rattle.asg_values.proofs.laws.best_bottleneck_max_law.Goals as goal

pub returns : goal.returns
returns c = best_max_law
