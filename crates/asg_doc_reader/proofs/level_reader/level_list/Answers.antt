use Rattle.asg_doc_reader.proofs.Common.{arith, Halts-counted, IsRead-more, ReadsOrFails-err}
use Rattle.asg_doc_reader.proofs.LevelParts.{level_law, AreLevelParts-from_text}
use Rattle.asg_doc_reader.proofs.level_reader.level_list.Goals as goal

pub returns-in_err-level : goal.returns-in_err-level
returns-in_err-level c = ReadsOrFails-err c.from_residual.result c.from_residual.ensures.1
    (Halts-counted level_law c.loop.invariant (omega arith) c.in_err-level.ensures)

pub from_vec-requires : goal.from_vec-requires
from_vec-requires c = AreLevelParts-from_text c.loop.levels.items c.loop.invariant.has.1

pub loop-preserved : goal.loop-preserved
loop-preserved c = rw c.in_ok-push.ensures.items (IsRead-more c.loop.invariant c.in_ok-level.ensures)
