use Rattle.asg_brief.proofs.NextBest.{ranking_of_next}
use Rattle.asg_brief.proofs.laws.next_best_law.Goals as goal

pub returns : goal.returns
returns c = λ objective X count choices next some few done. ranking_of_next objective X count choices next some few done
