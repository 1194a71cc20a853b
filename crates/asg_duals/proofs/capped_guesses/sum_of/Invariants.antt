use Rattle.asg_duals.proofs.Common.{◌≤◌, take}
use Rattle.std.specs.List.{sum}
use Rattle.asg_duals.proofs.capped_guesses.sum_of.Given as goal

-- the total so far is at most the sum of the steps so far
abbrev pub invariant-steps : goal.invariant-steps
invariant-steps l = l.total ≤ sum (take l.step-index l.steps)
