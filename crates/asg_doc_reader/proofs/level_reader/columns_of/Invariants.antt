use Rattle.asg_doc_reader.proofs.Common.{length, column_spelling, AreListed}
use Rattle.asg_doc_reader.proofs.level_reader.columns_of.Given as goal

abbrev pub invariant-listed : goal.invariant-listed
invariant-listed l = AreListed column_spelling l.text l.columns.items l.rest

abbrev pub decreases-listed : goal.decreases-listed
decreases-listed l = length l.rest
