use Rattle.asg_doc_reader.proofs.Common.{Reads-line}
use Rattle.asg_doc_reader.proofs.Leaves.{command_legible}
use Rattle.asg_doc_reader.proofs.document_reader.command.Goals as goal

pub returns : goal.returns
returns c = Reads-line command_legible c.read.result (λ p r met. met) c.read.ensures
