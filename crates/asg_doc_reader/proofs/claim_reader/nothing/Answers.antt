use Rattle.asg_doc_reader.proofs.Common.{hall_part, Halts-first, Halts-second, Halts-shape, Halts-stops, IsRead-both, IsRead-shape, ReadsOrFails-err}
use Rattle.asg_doc_reader.proofs.ClaimParts.{ended_chain, ended_shape}
use Rattle.asg_doc_reader.proofs.Leaves.{hall_law}
use Rattle.asg_doc_reader.proofs.claim_reader.nothing.Goals as goal

pub returns-in_err-rows : goal.returns-in_err-rows
returns-in_err-rows c = ReadsOrFails-err c.from_residual.result c.from_residual.ensures.1 (Halts-shape (ended_shape hall_part) (Halts-first (ended_chain hall_law) c.in_err-rows.ensures))

pub returns-in_err-pass : goal.returns-in_err-pass
returns-in_err-pass c = ReadsOrFails-err c.from_residual-in_err-pass.result c.from_residual-in_err-pass.ensures.1
    (Halts-shape (ended_shape hall_part) (Halts-second (ended_chain hall_law) c.in_ok-rows.ensures (Halts-stops c.in_err-pass.ensures)))

pub returns : goal.returns
unfolding ended_shape
returns c = IsRead-shape (ended_shape hall_part) (IsRead-both (ended_chain hall_law) c.in_ok-rows.ensures c.in_ok-pass.ensures)
