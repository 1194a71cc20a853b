use Rattle.asg_levels.proofs.Common.{RenewsRows}
use Rattle.asg_levels.proofs.next_step.tighten_more.Given as goal

-- the rows so far
abbrev pub invariant-loop-row : goal.invariant-loop-row
invariant-loop-row l = RenewsRows l.initial.marks l.marks l.zeros l.ones l.enters l.ins l.outs l.row
