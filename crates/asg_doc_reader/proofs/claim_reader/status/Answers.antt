use Rattle.asg_doc_reader.proofs.Common.{Reads-line}
use Rattle.asg_doc_reader.proofs.Leaves.{status_legible}
use Rattle.asg_doc_reader.proofs.claim_reader.status.Goals as goal

pub returns : goal.returns
returns c = Reads-line status_legible c.read.result (λ p r met. met) c.read.ensures
