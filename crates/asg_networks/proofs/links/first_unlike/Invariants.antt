use Rattle.asg_networks.proofs.FirstTwice.{IsLeastOf}
use Rattle.asg_networks.proofs.links.first_unlike.Given as goal

abbrev pub invariant-loop-at : goal.invariant-loop-at
invariant-loop-at l = IsLeastOf l.links l.places l.at l.first
