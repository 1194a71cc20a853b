use Rattle.asg_doc_reader.proofs.Common.{subst, proof_head_part, phase_part, counted, IsRead, Halts, Halts-first, Halts-second, Halts-shape, ReadsOrFails-err}
use Rattle.asg_doc_reader.proofs.ClaimParts.{proof_shape, head_rest}
use Rattle.asg_doc_reader.proofs.claim_reader.proof.Goals as goal

pub returns-in_err-count : goal.returns-in_err-count
returns-in_err-count c = ReadsOrFails-err c.from_residual.result c.from_residual.ensures.1 (Halts-shape (proof_shape c.args.objective) (Halts-first (head_rest c.args.objective) c.in_err-count.ensures))

pub returns-in_err-phases-in-Phases : goal.returns-in_err-phases-in-Phases
returns-in_err-phases-in-Phases c = ReadsOrFails-err c.from_residual-in_err-phases-in-Phases.result c.from_residual-in_err-phases-in-Phases.ensures.1
    (Halts-shape (proof_shape c.args.objective)
    (Halts-second (head_rest c.args.objective) (subst (IsRead proof_head_part c.args.lines.now c.proof_head.new.lines) c.in-Phases.is c.in_ok-count.ensures)
    (subst (λ graded. Halts (counted c.in-Phases.count (phase_part graded)) c.proof_head.new.lines c.phases.new.lines c.in_err-phases-in-Phases.field-0.0) c.has_grades.ensures c.in_err-phases-in-Phases.ensures)))

pub returns-in_err-windows-in-Windows : goal.returns-in_err-windows-in-Windows
returns-in_err-windows-in-Windows c = ReadsOrFails-err c.from_residual-in_err-windows-in-Windows.result c.from_residual-in_err-windows-in-Windows.ensures.1
    (Halts-shape (proof_shape c.args.objective)
    (Halts-second (head_rest c.args.objective) (subst (IsRead proof_head_part c.args.lines.now c.proof_head.new.lines) c.in-Windows.is c.in_ok-count.ensures) c.in_err-windows-in-Windows.ensures))

pub returns-in_err-perm-in-Levels : goal.returns-in_err-perm-in-Levels
returns-in_err-perm-in-Levels c = ReadsOrFails-err c.from_residual-in_err-perm-in-Levels.result c.from_residual-in_err-perm-in-Levels.ensures.1
    (Halts-shape (proof_shape c.args.objective)
    (Halts-second (head_rest c.args.objective) (subst (IsRead proof_head_part c.args.lines.now c.proof_head.new.lines) c.in-Levels.is c.in_ok-count.ensures) c.in_err-perm-in-Levels.ensures))
