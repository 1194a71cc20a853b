use Rattle.asg_commands.proofs.Common.{◌≡◌, ℕ, List, IfOk, None, sym, subst, IfOk-weaker, Answers, Status, StopsScript, Edit, DueToCheck, DueForScript, held_passes, first_refused, script_in, solved_instances, Line}
use Rattle.asg_commands.proofs.JudgeStops.{refused_due}
use Rattle.asg_commands.proofs.check.script_reply.Goals as goal

pub answer_reply-requires-clause-tried : goal.answer_reply-requires-clause-tried
answer_reply-requires-clause-tried c =
    let objective = c.args.job.now.objective in
    subst (λ lines. first_refused objective c.args.inst lines ≡ None) (sym c.deref.ensures.value) (held_passes objective c.args.inst c.args.script.now c.in-Ok.lines.items c.in-Ok.ensures.held)

pub returns-in-Ok : goal.returns-in-Ok
returns-in-Ok c =
    let objective = c.args.job.now.objective in
    let X = c.args.inst in
    let Owed : List (ℕ × Line) → Status → List ℕ → Type 0 = λ lines. DueToCheck objective Edit (solved_instances X lines) c.args.answer.now in
    subst (λ file. IfOk c.answer_reply.result (Answers (DueForScript file Owed))) (sym c.in-Ok.ensures.held)
    (subst (λ lines. IfOk c.answer_reply.result (Answers (Owed lines))) c.deref.ensures.value c.answer_reply.ensures)

pub returns-in-Err : goal.returns-in-Err
returns-in-Err c =
    let objective = c.args.job.now.objective in
    let X = c.args.inst in
    let file = script_in objective X c.args.script.now in
    let Owed : List (ℕ × Line) → Status → List ℕ → Type 0 = λ lines. DueToCheck objective Edit (solved_instances X lines) c.args.answer.now in
    IfOk-weaker c.stop_reply.result _ (Answers (DueForScript file Owed)) (λ reply is. refused_due file Owed reply (subst (StopsScript file) is c.in-Err.ensures.stop)) c.stop_reply.ensures
