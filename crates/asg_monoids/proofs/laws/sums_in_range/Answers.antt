use Rattle.asg_monoids.proofs.SumRanges.{sum_in_range, sum_max_in_range, pair_in_range}
use Rattle.asg_monoids.proofs.laws.sums_in_range.Goals as goal

pub returns-clause-sum : goal.returns-clause-sum
returns-clause-sum c = sum_in_range

pub returns-clause-sum_max : goal.returns-clause-sum_max
returns-clause-sum_max c = sum_max_in_range

pub returns-clause-pair : goal.returns-clause-pair
returns-clause-pair c = pair_in_range
