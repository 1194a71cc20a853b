use Rattle.asg_doc_reader.proofs.Common.{ranking_part, Halts-first, Halts-second, Halts-shape, Halts-stops, IsRead-both, IsRead-shape, ReadsOrFails-err}
use Rattle.asg_doc_reader.proofs.ClaimParts.{ended_chain, ended_shape}
use Rattle.asg_doc_reader.proofs.RankingParts.{ranking_law}
use Rattle.asg_doc_reader.proofs.claim_reader.ranked.Goals as goal

pub returns-in_err-ranking : goal.returns-in_err-ranking
returns-in_err-ranking c = ReadsOrFails-err c.from_residual.result c.from_residual.ensures.1 (Halts-shape (ended_shape (ranking_part c.args.objective)) (Halts-first (ended_chain (ranking_law c.args.objective)) c.in_err-ranking.ensures))

pub returns-in_err-pass : goal.returns-in_err-pass
returns-in_err-pass c = ReadsOrFails-err c.from_residual-in_err-pass.result c.from_residual-in_err-pass.ensures.1
    (Halts-shape (ended_shape (ranking_part c.args.objective)) (Halts-second (ended_chain (ranking_law c.args.objective)) c.in_ok-ranking.ensures (Halts-stops c.in_err-pass.ensures)))

pub returns : goal.returns
unfolding ended_shape
returns c = IsRead-shape (ended_shape (ranking_part c.args.objective)) (IsRead-both (ended_chain (ranking_law c.args.objective)) c.in_ok-ranking.ensures c.in_ok-pass.ensures)
