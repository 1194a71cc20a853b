use Rattle.asg_commands.proofs.Common.{[], ◌∷◌, sym, refl, ap, subst, SolverRefuses, refused_instance_text, Instance, DueToSolve, TooLarge}
use Rattle.asg_answers.specs.SolverRefusals.{IsSolverRefusal}
use Rattle.asg_commands.proofs.ReplyLemmas.{replied}
use Rattle.asg_commands.proofs.solve.solver_reply.Goals as goal

pub returns-in-Err-TooLarge : goal.returns-in-Err-TooLarge
returns-in-Err-TooLarge c =
    let job = c.args.job.now in
    let X = c.args.inst.now in
    let refuses = subst (IsSolverRefusal job.objective X) c.in-Err-TooLarge.field-0-is c.in-Err-TooLarge.ensures.refusal in
    replied (DueToSolve job X) Instance (refused_instance_text (c.limit_number.result ∷ c.from.result ∷ [])) c.refusal.result
    (TooLarge c.from.result (subst (SolverRefuses job.objective X) (sym c.from.ensures) refuses) refl (ap (λ n. refused_instance_text (n ∷ c.from.result ∷ [])) c.limit_number.ensures))
    c.refusal.ensures
