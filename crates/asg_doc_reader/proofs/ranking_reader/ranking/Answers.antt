use Rattle.asg_doc_reader.proofs.Common.{Halts-first, Halts-second, Halts-stops, IsRead-both, ReadsOrFails-err}
use Rattle.asg_doc_reader.proofs.RankingParts.{asked_ranked}
use Rattle.asg_doc_reader.proofs.ranking_reader.ranking.Goals as goal

pub returns-in_err-count : goal.returns-in_err-count
returns-in_err-count c = ReadsOrFails-err c.from_residual.result c.from_residual.ensures.1 (Halts-first (asked_ranked c.args.objective) (Halts-stops c.in_err-count.ensures))

pub returns-in_err-ranked : goal.returns-in_err-ranked
returns-in_err-ranked c = ReadsOrFails-err c.from_residual-in_err-ranked.result c.from_residual-in_err-ranked.ensures.1
    (Halts-second (asked_ranked c.args.objective) c.in_ok-count.ensures c.in_err-ranked.ensures)

pub returns : goal.returns
returns c = IsRead-both (asked_ranked c.args.objective) c.in_ok-count.ensures c.in_ok-ranked.ensures
