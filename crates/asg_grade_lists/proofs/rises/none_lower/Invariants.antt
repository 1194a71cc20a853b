use Rattle.asg_grade_lists.proofs.Common.{NoneLower, cell_at}
use Rattle.asg_grade_lists.proofs.rises.none_lower.Given as goal

-- none of the cells so far is lower
abbrev pub invariant-columns : goal.invariant-columns
invariant-columns l = NoneLower l.grade l.k l.leaves (cell_at l.square l.r)
