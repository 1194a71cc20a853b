use Rattle.asg_doc_reader.proofs.Common.{Reads-line}
use Rattle.asg_doc_reader.proofs.RankingParts.{asked_legible}
use Rattle.asg_doc_reader.proofs.ranking_reader.asked.Goals as goal

pub returns : goal.returns
returns c = Reads-line asked_legible c.read.result (λ p r met. met) c.read.ensures
