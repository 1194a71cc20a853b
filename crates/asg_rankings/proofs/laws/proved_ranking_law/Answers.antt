use Rattle.asg_rankings.proofs.TreesAreRankings.{IsRanking-from_tree}
use Rattle.asg_rankings.proofs.laws.proved_ranking_law.Goals as goal

pub returns : goal.returns
returns c = record { ranking = IsRanking-from_tree c.infeasible_law.ensures c.index_law.ensures c.index_law-2.ensures }
