use Rattle.asg_dual_bounds.proofs.Splits.{in_whole, in-from_child, not_in_child, covered, once}
use Rattle.asg_dual_bounds.proofs.laws.split_law.Goals as goal

pub returns-clause-root : goal.returns-clause-root
returns-clause-root c columns = in_whole columns

pub returns-clause-within : goal.returns-clause-within
returns-clause-within c part g f r same given from upto inside = in-from_child part g f r given from upto inside

pub returns-clause-other : goal.returns-clause-other
returns-clause-other c part g r upto inside = not_in_child part g r upto inside

pub returns-clause-covered : goal.returns-clause-covered
returns-clause-covered c part g f same given in_part other = covered part g f same given in_part other

pub returns-clause-once : goal.returns-clause-once
returns-clause-once c part g f r s same upto_r upto_s in_r in_s = once part g f r s same upto_r upto_s in_r in_s
