use Rattle.asg_doc_reader.proofs.Common.{length, bound_spelling, AreListed}
use Rattle.asg_doc_reader.proofs.cost_reader.costs_of.Given as goal

abbrev pub invariant-listed : goal.invariant-listed
invariant-listed l = AreListed bound_spelling l.text l.costs.items l.rest

abbrev pub decreases-listed : goal.decreases-listed
decreases-listed l = length l.rest
