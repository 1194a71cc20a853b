use Rattle.asg_doc_reader.proofs.Common.{Halts-first, Halts-second, IsRead-both, ReadsOrFails-err}
use Rattle.asg_doc_reader.proofs.LevelParts.{perm_levels}
use Rattle.asg_doc_reader.proofs.level_reader.levels.Goals as goal

pub returns-in_err-perm : goal.returns-in_err-perm
returns-in_err-perm c = ReadsOrFails-err c.from_residual.result c.from_residual.ensures.1 (Halts-first (perm_levels c.args.count) c.in_err-perm.ensures)

pub returns-in_err-levels : goal.returns-in_err-levels
returns-in_err-levels c = ReadsOrFails-err c.from_residual-in_err-levels.result c.from_residual-in_err-levels.ensures.1
    (Halts-second (perm_levels c.args.count) c.in_ok-perm.ensures c.in_err-levels.ensures)

pub returns : goal.returns
returns c = IsRead-both (perm_levels c.args.count) c.in_ok-perm.ensures c.in_ok-levels.ensures
