use Rattle.asg_check.proofs.WindowGaps.{IsPassed}
use Rattle.asg_check.proofs.window_gaps.first_outside.Given as goal

abbrev pub invariant-spans : goal.invariant-spans
invariant-spans l = IsPassed l.costs l.spans l.place l.span-index
