use Rattle.asg_doc_reader.proofs.Common.{Reads-line}
use Rattle.asg_doc_reader.proofs.Leaves.{objective_legible}
use Rattle.asg_doc_reader.proofs.document_reader.objective.Goals as goal

pub returns : goal.returns
returns c = Reads-line objective_legible c.read.result (λ p r met. met) c.read.ensures
