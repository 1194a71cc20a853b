use Rattle.asg_values.proofs.BottleneckLaw.{bottleneck_law}
use Rattle.asg_values.proofs.laws.bottleneck_law.Goals as goal

pub returns : goal.returns
returns c = bottleneck_law
