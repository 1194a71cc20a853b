use Rattle.asg_doc_reader.proofs.Common.{arith, Halts-counted, IsRead-more, ReadsOrFails-err}
use Rattle.asg_doc_reader.proofs.WindowParts.{window_law, AreWindows-from_text}
use Rattle.asg_doc_reader.proofs.window_reader.windows.Goals as goal

pub returns-in_err-window : goal.returns-in_err-window
returns-in_err-window c = ReadsOrFails-err c.from_residual.result c.from_residual.ensures.1
    (Halts-counted window_law c.loop.invariant (omega arith) c.in_err-window.ensures)

pub from_vec-requires : goal.from_vec-requires
from_vec-requires c = rw c.shrink_to_fit.ensures.items (AreWindows-from_text c.loop.windows.items c.loop.invariant.has.1)

pub loop-preserved : goal.loop-preserved
loop-preserved c = rw c.in_ok-push.ensures.items (IsRead-more c.loop.invariant c.in_ok-window.ensures)
