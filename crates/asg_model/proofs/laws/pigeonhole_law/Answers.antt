use Rattle.asg_model.specs.laws.Counting.{length-le_contains}
use Rattle.asg_model.proofs.laws.pigeonhole_law.Goals as goal

pub returns : goal.returns
returns c = length-le_contains
