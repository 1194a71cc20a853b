use Rattle.asg_brief.proofs.RankedValues.{AreRankedEnds-ranking}
use Rattle.asg_brief.proofs.laws.ranked_ends_law.Goals as goal

pub returns : goal.returns
returns c = λ objective X count choices ranking. AreRankedEnds-ranking objective X count choices ranking
