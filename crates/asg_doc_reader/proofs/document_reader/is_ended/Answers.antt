use Rattle.asg_doc_reader.proofs.Common.{length, arith, eq-eqb, eqb-true, false-eqb}
use Rattle.asg_doc_reader.proofs.DocumentLines.{last_of_ended, ended_by_last}
use Rattle.asg_doc_reader.proofs.document_reader.is_ended.Goals as goal

pub returns-else-is_empty : goal.returns-else-is_empty
returns-else-is_empty c = (
  λ is. ended_by_last c.args.file.now (eqb-true _ _ is),
  λ same. eq-eqb _ _ (last_of_ended c.args.file.now (omega (arith, false-eqb (length c.args.file.now) 0 c.if-is_empty.ensures)) same),
)
