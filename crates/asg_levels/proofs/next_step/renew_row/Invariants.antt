use Rattle.asg_levels.proofs.Common.{TightensWords}
use Rattle.asg_levels.proofs.next_step.renew_row.Given as goal

-- the words so far
abbrev pub invariant-loop-number : goal.invariant-loop-number
invariant-loop-number l = TightensWords l.fn.marks l.marks l.zeros l.ones l.outs l.ins l.row l.number
