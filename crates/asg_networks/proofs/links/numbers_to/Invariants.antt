use Rattle.asg_networks.proofs.Common.{◌≡◌, range_with_len}
use Rattle.asg_networks.proofs.links.numbers_to.Given as goal

abbrev pub invariant-loop-number : goal.invariant-loop-number
invariant-loop-number l = l.numbers.items ≡ range_with_len 0 l.number
