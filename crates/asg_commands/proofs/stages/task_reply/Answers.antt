use Rattle.asg_commands.proofs.Common.{[], ◌∷◌, IfOk, sym, ap, ◌∙◌, subst, Answers, Edit, DueForTask, DueToCheck, form_asked, DueForScript, content_at, Check, script_in, solved_instances}
use Rattle.asg_commands.proofs.stages.task_reply.Goals as goal

pub returns-in-Solve : goal.returns-in-Solve
returns-in-Solve c =
    subst (λ task. IfOk c.reply.result (Answers (DueForTask task c.args.job.now c.args.sources.now c.args.inst))) (sym c.in-Solve.is) c.reply.ensures

pub returns-in-Rank : goal.returns-in-Rank
returns-in-Rank c =
    subst (λ task. IfOk c.reply-in-Rank.result (Answers (DueForTask task c.args.job.now c.args.sources.now c.args.inst))) (sym c.in-Rank.is) c.reply-in-Rank.ensures

pub returns-in-Check-default-None-default : goal.returns-in-Check-default-None-default
returns-in-Check-default-None-default c =
    let job = c.args.job.now in
    let X = c.args.inst in
    let contents = c.args.sources.now in
    let here = c.in-Check-default-None-default in
    let script_is = rw here.is at here.script-is in
    let r = c.reply-in-Check-default-None-default in
    let formed = subst (λ form. IfOk r.result (Answers (DueToCheck job.objective form (X ∷ []) c.at.result.now))) c.form_asked.ensures r.ensures in
    let told = subst (λ bytes. IfOk r.result (Answers (DueToCheck job.objective (form_asked here.count) (X ∷ []) bytes))) c.at.ensures.bytes formed in
    subst (λ task. IfOk r.result (Answers (DueForTask task job contents X))) (sym (here.is ∙ ap (λ script. Check here.answer script here.count) script_is)) told

pub returns-in-Check-default-Some-default : goal.returns-in-Check-default-Some-default
returns-in-Check-default-Some-default c =
    let job = c.args.job.now in
    let X = c.args.inst in
    let contents = c.args.sources.now in
    let here = c.in-Check-default-Some-default in
    let script_is = rw here.is at here.script-is in
    let r = c.script_reply in
    let script = c.at-in-Check-default-Some-default in
    let answer = c.at-in-Check-default-Some-default-2 in
    let scripted = subst (λ bytes. IfOk r.result (Answers (DueForScript (script_in job.objective X bytes) (λ lines. DueToCheck job.objective Edit (solved_instances X lines) answer.result.now)))) script.ensures.bytes r.ensures in
    let told = subst (λ bytes. IfOk r.result (Answers (DueForScript (script_in job.objective X (content_at contents 1)) (λ lines. DueToCheck job.objective Edit (solved_instances X lines) bytes)))) answer.ensures.bytes scripted in
    subst (λ task. IfOk r.result (Answers (DueForTask task job contents X))) (sym (here.is ∙ ap (λ script. Check here.answer script here.count) script_is)) told
