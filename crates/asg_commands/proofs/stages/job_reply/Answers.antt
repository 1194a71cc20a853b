use Rattle.asg_commands.proofs.Common.{[], ◌∷◌, ℕ, List, None, Some, ◌≡◌, ◌∙◌, arith, subst, IfOk-weaker, Answers, StopsInstance, DueForJob, DueForTask, DueToCheck, form_asked, DueForScript, Held, Holds, instance_in, content_at, script_in, solved_instances, Check, Rank, Solve}
use Rattle.asg_answers.specs.declared.status.Status.{Status}
use Rattle.asg_check.specs.declared.document_forms.Form.TheVariants.{Edit as EditForm}
use Rattle.asg_model.specs.Problem.{Problem}
use Rattle.asg_promises.specs.DueToEdit.{DueToEdit}
use Rattle.asg_words.specs.declared.requests.Job.{Job}
use Rattle.asg_words.specs.declared.requests.Task.{Task}
use Rattle.asg_words.specs.declared.requests.Task.TheVariants.{Edit}
use Rattle.asg_commands.proofs.InstanceLemmas.{stop_due}
use Rattle.asg_commands.proofs.ReplyLemmas.{owed_as}
use Rattle.asg_commands.proofs.stages.job_reply.Goals as goal

-- what is due for a task stands on the contents behind the first alone
task_due : (task : Task) (job : Job) (contents others : List (List ℕ)) (X : Problem) (status : Status) (text : List ℕ) → content_at contents 1 ≡ content_at others 1 → content_at contents 2 ≡ content_at others 2 → DueForTask task job contents X status text → DueForTask task job others X status text
task_due Solve job contents others X status text first second due = due
task_due (Rank count) job contents others X status text first second due = due
task_due (Edit script) job contents others X status text first second due =
    subst (λ bytes. DueForScript (script_in job.objective X bytes) (DueToEdit job X) status text) first due
task_due (Check answer None count) job contents others X status text first second due =
    subst (λ bytes. DueToCheck job.objective (form_asked count) (X ∷ []) bytes status text) first due
task_due (Check answer (Some script) count) job contents others X status text first second due =
    subst (λ bytes. DueForScript (script_in job.objective X bytes) (λ lines. DueToCheck job.objective EditForm (solved_instances X lines) (content_at others 2)) status text) first
    (subst (λ bytes. DueForScript (script_in job.objective X (content_at contents 1)) (λ lines. DueToCheck job.objective EditForm (solved_instances X lines) bytes) status text) second due)

pub task_reply-requires-clause-place : goal.task_reply-requires-clause-place
task_reply-requires-clause-place c = c.instance_law.ensures.place c.as_slice.result.now c.args.job.now c.in-Ok.inst c.in-Ok.ensures.held

pub task_reply-requires-clause-side : goal.task_reply-requires-clause-side
task_reply-requires-clause-side c = c.instance_law.ensures.side c.as_slice.result.now c.args.job.now c.in-Ok.inst c.in-Ok.ensures.held

pub task_reply-requires-clause-passes : goal.task_reply-requires-clause-passes
task_reply-requires-clause-passes c = c.instance_law.ensures.passes c.as_slice.result.now c.args.job.now c.in-Ok.inst c.in-Ok.ensures.held

pub returns-in-Ok : goal.returns-in-Ok
returns-in-Ok c =
    let job = c.args.job.now in
    let contents = c.args.sources.now in
    let X = c.in-Ok.inst in
    let holds : instance_in job (content_at contents 0) ≡ Holds X = subst (λ bytes. instance_in job bytes ≡ Holds X) (c.as_slice.ensures.value ∙ c.take-bytes.ensures.bytes) c.in-Ok.ensures.held in
    owed_as (DueForTask job.task job c.take-bytes.new.self X) (DueForJob job contents) c.task_reply.result (λ status text owed. Held c.take-bytes.ensures.short X holds (task_due job.task job c.take-bytes.new.self contents X status text (c.take-bytes.ensures.others 1 (λ e. absurd (omega (arith, e)))) (c.take-bytes.ensures.others 2 (λ e. absurd (omega (arith, e)))) owed)) c.task_reply.ensures

pub returns-in-Err : goal.returns-in-Err
returns-in-Err c =
    let job = c.args.job.now in
    let contents = c.args.sources.now in
    let stops = subst (λ bytes. StopsInstance (instance_in job bytes) c.in-Err.stop) (c.as_slice.ensures.value ∙ c.take-bytes.ensures.bytes) c.in-Err.ensures.stop in
    IfOk-weaker c.stop_reply.result _ (Answers (DueForJob job contents)) (λ reply is. stop_due job contents reply c.take-bytes.ensures.short (subst (StopsInstance (instance_in job (content_at contents 0))) is stops)) c.stop_reply.ensures
