use Rattle.asg_grammar.proofs.Common.{length}
use Rattle.asg_grammar.proofs.ListedNumbers.{AreRead}
use Rattle.asg_grammar.proofs.fields.numbers.Given as goal

abbrev pub invariant-loop-number : goal.invariant-loop-number
invariant-loop-number l = AreRead l.text l.numbers.items l.rest

abbrev pub decreases-loop-number : goal.decreases-loop-number
decreases-loop-number l = length l.rest
