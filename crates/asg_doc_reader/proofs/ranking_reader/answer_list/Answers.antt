use Rattle.asg_doc_reader.proofs.Common.{arith, Halts-counted, IsRead-more, ReadsOrFails-err}
use Rattle.asg_doc_reader.proofs.RankingParts.{listed_law}
use Rattle.asg_doc_reader.proofs.ranking_reader.answer_list.Goals as goal

pub returns-in_err-answer : goal.returns-in_err-answer
returns-in_err-answer c = ReadsOrFails-err c.from_residual.result c.from_residual.ensures.1
    (Halts-counted (listed_law c.args.objective) c.loop.invariant (omega arith) c.in_err-answer.ensures)

pub loop-preserved : goal.loop-preserved
loop-preserved c = rw c.in_ok-push.ensures.items (IsRead-more c.loop.invariant c.in_ok-answer.ensures)
