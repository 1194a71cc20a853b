use Rattle.asg_doc_reader.proofs.Common.{length, step_spelling, AreListed}
use Rattle.asg_doc_reader.proofs.phase_reader.steps_of.Given as goal

abbrev pub invariant-listed : goal.invariant-listed
invariant-listed l = AreListed (step_spelling l.has_grades) l.text l.steps l.rest

abbrev pub decreases-listed : goal.decreases-listed
decreases-listed l = length l.rest
