use Rattle.asg_dual_bounds.proofs.AnswerSums.{better_is}
use Rattle.asg_dual_bounds.proofs.laws.sums_law.Goals as goal

pub returns : goal.returns
returns c objective X f g is_sum instance is_f is_g = better_is objective X is_sum instance f g is_f is_g
