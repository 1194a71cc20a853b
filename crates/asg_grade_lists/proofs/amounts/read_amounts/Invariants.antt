use Rattle.asg_grade_lists.proofs.Common.{take, AreAmountsAt}
use Rattle.asg_grade_lists.proofs.amounts.read_amounts.Given as goal

-- the steps so far are read
abbrev pub invariant-steps : goal.invariant-steps
invariant-steps l = AreAmountsAt l.grade (take l.t l.words) l.amounts.items
