use Rattle.asg_doc_reader.proofs.Common.{Reads-line}
use Rattle.asg_doc_reader.proofs.Leaves.{level_head_legible}
use Rattle.asg_doc_reader.proofs.level_reader.level_head.Goals as goal

pub returns : goal.returns
returns c = Reads-line level_head_legible c.read.result (λ p r met. met) c.read.ensures
