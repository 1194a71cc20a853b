use Rattle.asg_sum_edits.proofs.LeastLaw.{least_is_best}
use Rattle.asg_sum_edits.proofs.laws.least_law.Goals as goal

pub returns : goal.returns
returns c = least_is_best
