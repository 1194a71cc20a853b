use Rattle.asg_values.proofs.BottleneckLaw.{bottleneck_max_law}
use Rattle.asg_values.proofs.laws.bottleneck_max_law.Goals as goal

pub returns : goal.returns
returns c = bottleneck_max_law
