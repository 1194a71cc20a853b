use Rattle.asg_doc_reader.proofs.Common.{sym, subst, to_z-of_z, level_part, IsRead, Halts-first, Halts-second, Halts-shape, Halts-stops, IsRead-both, IsRead-shape, ReadsOrFails-err, w64}
use Rattle.asg_doc_reader.proofs.LevelParts.{level_shape, head_phases}
use Rattle.asg_doc_reader.proofs.level_reader.level.Goals as goal

pub returns-in_err-cost : goal.returns-in_err-cost
returns-in_err-cost c = ReadsOrFails-err c.from_residual.result c.from_residual.ensures.1 (Halts-shape level_shape (Halts-first head_phases (Halts-stops c.in_err-cost.ensures)))

pub returns-in_err-phases : goal.returns-in_err-phases
returns-in_err-phases c = ReadsOrFails-err c.from_residual-in_err-phases.result c.from_residual-in_err-phases.ensures.1
    (Halts-shape level_shape (Halts-second head_phases c.in_ok-cost.ensures c.in_err-phases.ensures))

pub returns : goal.returns
unfolding level_shape
returns c =
    subst (λ cost. IsRead level_part c.args.lines.now c.phases.new.lines (record { cost = cost; count = c.in_ok-cost.count; phases = c.in_ok-phases.phases }))
    (sym (to_z-of_z w64 c.in_ok-cost.cost c.in_ok-cost.ensures.has.0))
    (IsRead-shape level_shape (IsRead-both head_phases c.in_ok-cost.ensures c.in_ok-phases.ensures))
