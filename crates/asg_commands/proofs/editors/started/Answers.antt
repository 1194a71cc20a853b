use Rattle.asg_commands.proofs.Common.{◌≡◌, ◌∙◌, arith, subst, IfErr-weaker, StopsInstance, StopsJob, StopsScript, content_at, Holds, instance_in, script_in}
use Rattle.asg_commands.proofs.EditStarts.{instance_stop, script_stop}
use Rattle.asg_commands.proofs.editors.started.Goals as goal

pub returns-in-Err-clause-stop : goal.returns-in-Err-clause-stop
returns-in-Err-clause-stop c =
    instance_stop c.args.job.now c.args.sources.now c.in-Err.stop c.take-bytes.ensures.short (subst (λ bytes. StopsInstance (instance_in c.args.job.now bytes) c.in-Err.stop) (c.as_slice.ensures.value ∙ c.take-bytes.ensures.bytes) c.in-Err.ensures.stop)

pub returns-in-Ok-clause-stop : goal.returns-in-Ok-clause-stop
returns-in-Ok-clause-stop c =
    let job = c.args.job.now in
    let contents = c.args.sources.now in
    let X = c.in-Ok.inst in
    let holds : instance_in job (content_at contents 0) ≡ Holds X = subst (λ bytes. instance_in job bytes ≡ Holds X) (c.as_slice.ensures.value ∙ c.take-bytes.ensures.bytes) c.in-Ok.ensures.held in
    let script : c.at.result.now ≡ content_at contents 1 = c.at.ensures.bytes ∙ c.take-bytes.ensures.others 1 (λ e. absurd (omega (arith, e))) in
    IfErr-weaker c.scripted.result (StopsScript (script_in job.objective X c.at.result.now)) (StopsJob job contents)
    (λ stop stops. script_stop job contents X stop c.requires.edits c.take-bytes.ensures.short holds (subst (λ bytes. StopsScript (script_in job.objective X bytes) stop) script stops)) c.scripted.ensures.stop
