use Rattle.asg_model.proofs.RetainedLists.{KeptFirst}
use Rattle.asg_model.proofs.retaining.retain_listed.Given as goal

-- the cells so far
abbrev pub invariant-loop-place : goal.invariant-loop-place
invariant-loop-place g l = KeptFirst (goal.F-post g l.keep) l.fn.cells.items l.cells.items l.place l.kept
