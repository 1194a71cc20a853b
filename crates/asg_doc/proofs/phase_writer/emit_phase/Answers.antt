use Rattle.asg_doc.proofs.Common.{[], ◌∷◌, ◌++◌, codes, ap, spaced, spaced_steps, Wrote-append, Wrote-as, Wrote-last}
use Rattle.asg_doc.proofs.phase_writer.emit_phase.Goals as goal

pub returns : goal.returns
returns g c = Wrote-append
    (Wrote-as (ap (λ steps. (codes "steps" ++ spaced_steps c.args.has_grades steps) ++ 10 ∷ []) c.steps.ensures) c.emit_step_line.ensures)
    (Wrote-append
    (Wrote-as (ap (λ numbers. (codes "enters" ++ spaced numbers) ++ 10 ∷ []) c.enters.ensures.enters) c.emit_list.ensures)
    (Wrote-last (Wrote-as (ap (λ numbers. (codes "leaves" ++ spaced numbers) ++ 10 ∷ []) c.leaves.ensures.leaves) c.emit_list-2.ensures)))
