use Rattle.asg_dual_bounds.proofs.AnswerRankings.{ranking}
use Rattle.asg_dual_bounds.proofs.laws.listed_law.Goals as goal

pub returns : goal.returns
returns c objective X count answers is_sum instance plain ranked = ranking objective X count answers is_sum instance plain ranked
