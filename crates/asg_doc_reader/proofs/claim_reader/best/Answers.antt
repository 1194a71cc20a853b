use Rattle.asg_doc_reader.proofs.Common.{proved_part, Halts-first, Halts-second, Halts-shape, Halts-stops, IsRead-both, IsRead-shape, ReadsOrFails-err}
use Rattle.asg_doc_reader.proofs.ClaimParts.{ended_chain, ended_shape, proved_law}
use Rattle.asg_doc_reader.proofs.claim_reader.best.Goals as goal

pub returns-in_err-proved : goal.returns-in_err-proved
returns-in_err-proved c = ReadsOrFails-err c.from_residual.result c.from_residual.ensures.1 (Halts-shape (ended_shape (proved_part c.args.objective)) (Halts-first (ended_chain (proved_law c.args.objective)) c.in_err-proved.ensures))

pub returns-in_err-pass : goal.returns-in_err-pass
returns-in_err-pass c = ReadsOrFails-err c.from_residual-in_err-pass.result c.from_residual-in_err-pass.ensures.1
    (Halts-shape (ended_shape (proved_part c.args.objective)) (Halts-second (ended_chain (proved_law c.args.objective)) c.in_ok-proved.ensures (Halts-stops c.in_err-pass.ensures)))

pub returns : goal.returns
unfolding ended_shape
returns c = IsRead-shape (ended_shape (proved_part c.args.objective)) (IsRead-both (ended_chain (proved_law c.args.objective)) c.in_ok-proved.ensures c.in_ok-pass.ensures)
