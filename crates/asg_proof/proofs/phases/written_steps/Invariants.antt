use Rattle.asg_proof.proofs.Common.{◌≡◌, map, take}
use Rattle.asg_proof.proofs.phases.written_steps.Given as goal

-- the words so far are those of the steps so far
abbrev pub invariant-loop-step : goal.invariant-loop-step
invariant-loop-step g l = l.written ≡ map (g.M.Written.word_of l.m) (take l.step-index l.steps)
