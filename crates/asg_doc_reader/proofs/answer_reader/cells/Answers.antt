use Rattle.asg_doc_reader.proofs.Common.{arith, Halts-counted, Halts-stops, ReadsOrFails-err}
use Rattle.asg_doc_reader.proofs.Leaves.{cell_law}
use Rattle.asg_doc_reader.proofs.answer_reader.cells.Goals as goal

pub returns-in_err-pair : goal.returns-in_err-pair
returns-in_err-pair c = ReadsOrFails-err c.from_residual-in_err-pair.result c.from_residual-in_err-pair.ensures.1 (Halts-counted cell_law c.loop.invariant (omega arith) (Halts-stops c.in_err-pair.ensures))
