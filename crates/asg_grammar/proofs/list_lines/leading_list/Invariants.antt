use Rattle.asg_grammar.proofs.Common.{length}
use Rattle.asg_grammar.proofs.ListedNumbers.{BeginsWith}
use Rattle.asg_grammar.proofs.list_lines.leading_list.Given as goal

abbrev pub invariant-listed : goal.invariant-listed
invariant-listed l = BeginsWith l.front l.bytes l.numbers.items l.rest

abbrev pub decreases-listed : goal.decreases-listed
decreases-listed l = length l.rest
