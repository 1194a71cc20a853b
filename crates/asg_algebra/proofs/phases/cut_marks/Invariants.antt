use Rattle.asg_algebra.proofs.Common.{◌≡◌, ◌++◌, take, drop, cut}
use Rattle.asg_algebra.proofs.phases.cut_marks.Given as goal

-- the marks so far are cut
abbrev pub invariant-loop-mark : goal.invariant-loop-mark
invariant-loop-mark l = l.marks ≡ cut l.steps (take l.mark-index l.fn.marks) ++ drop l.mark-index l.fn.marks
