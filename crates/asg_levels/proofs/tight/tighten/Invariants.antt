use Rattle.asg_levels.proofs.Common.{length, Tightens}
use Rattle.asg_levels.proofs.tight.tighten.Given as goal

-- the rows so far
abbrev pub invariant-loop-row : goal.invariant-loop-row
invariant-loop-row l = Tightens l.marks l.zeros l.ones l.ins l.outs (length l.ins) l.row
