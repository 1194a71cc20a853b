use Rattle.asg_monoids.proofs.SumRanges.{sum_is_narrow, sum_max_is_narrow, sum_enters_narrow, sum_max_enters_narrow}
use Rattle.asg_monoids.proofs.laws.narrow_sums.Goals as goal

pub returns-clause-sum : goal.returns-clause-sum
returns-clause-sum c = sum_is_narrow

pub returns-clause-sum_max : goal.returns-clause-sum_max
returns-clause-sum_max c = sum_max_is_narrow

pub returns-clause-values : goal.returns-clause-values
returns-clause-values c cost = (sum_enters_narrow cost, sum_max_enters_narrow cost)
