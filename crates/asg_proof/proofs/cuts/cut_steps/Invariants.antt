use Rattle.asg_proof.proofs.Common.{◌≡◌, ◌+◌, ◌<◌, take, sum}
use Rattle.asg_proof.proofs.cuts.cut_steps.Given as goal

-- the steps so far and what is left are the sum that is wanted
abbrev pub invariant-loop-i : goal.invariant-loop-i
invariant-loop-i l = record {
  same : l.steps.items ≡ l.fn.steps.items;
  some : 0 < l.left;
  sum : l.left + sum (take l.i l.fn.steps.items) ≡ l.most;
}
