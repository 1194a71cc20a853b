use Rattle.asg_rankings.proofs.Common.{IsValid-from_child, not-in_child, covered, once}
use Rattle.asg_rankings.specs.laws.ChildCells.{IsInstance-child}
use Rattle.asg_rankings.proofs.laws.partition_law.Goals as goal

pub returns-clause-within : goal.returns-clause-within
returns-clause-within c X f g branch valid = IsValid-from_child X f branch g valid

pub returns-clause-other : goal.returns-clause-other
returns-clause-other c X f branch all valid from upto = not-in_child X f all valid branch from upto

pub returns-clause-covered : goal.returns-clause-covered
returns-clause-covered c X f g all valid valid_g other = covered X f all valid g valid_g other

pub returns-clause-once : goal.returns-clause-once
returns-clause-once c X f g i j all valid from_i upto_i from_j upto_j in_i in_j = once X f all valid i j g from_i upto_i from_j upto_j in_i in_j

pub returns-clause-instance : goal.returns-clause-instance
returns-clause-instance c = IsInstance-child
