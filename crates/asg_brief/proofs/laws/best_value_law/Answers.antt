use Rattle.asg_brief.proofs.RankedValues.{IsBestValue-best}
use Rattle.asg_brief.proofs.laws.best_value_law.Goals as goal

pub returns : goal.returns
returns c = λ objective X f best. IsBestValue-best objective X f best
