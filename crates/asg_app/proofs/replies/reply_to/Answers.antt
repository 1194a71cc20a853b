use Rattle.asg_app.proofs.Common.{IfOk, Some, sym, ap, ◌∙◌, subst, Answers, DueForAsked}
use Rattle.asg_app.proofs.replies.reply_to.Goals as goal

pub returns-in-Some-Work : goal.returns-in-Some-Work
returns-in-Some-Work c =
    let here = c.in-Some-Work in
    let work = rw here.is at here.field-0-is in
    subst (λ asked. IfOk c.job_reply.result (Answers (DueForAsked asked c.args.asked.now.sources))) (sym (here.is ∙ ap Some work)) c.job_reply.ensures

pub returns-in-Some-Make : goal.returns-in-Some-Make
returns-in-Some-Make c =
    let here = c.in-Some-Make in
    let made = rw here.is at here.field-0-is in
    subst (λ asked. IfOk c.made_reply.result (Answers (DueForAsked asked c.args.asked.now.sources))) (sym (here.is ∙ ap Some made)) c.made_reply.ensures
