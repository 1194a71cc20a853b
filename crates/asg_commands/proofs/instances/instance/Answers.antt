use Rattle.asg_commands.proofs.Common.{◌≡◌, IfOk, IfErr, sym, subst, StopsInstance, Holds, instance_in, fault_of}
use Rattle.asg_commands.proofs.InstanceLemmas.{spelled_file, stops_text}
use Rattle.asg_commands.proofs.instances.instance.Goals as goal

pub returns-in-Ok-clause-held : goal.returns-in-Ok-clause-held
returns-in-Ok-clause-held c =
    let job = c.args.job.now in
    subst (λ found. IfOk c.fitted.result (λ held. found ≡ Holds held)) (sym (spelled_file job c.args.bytes.now c.in-Ok.inst c.in-Ok.ensures.instance)) c.fitted.ensures.held

pub returns-in-Ok-clause-stop : goal.returns-in-Ok-clause-stop
returns-in-Ok-clause-stop c =
    let job = c.args.job.now in
    subst (λ found. IfErr c.fitted.result (StopsInstance found)) (sym (spelled_file job c.args.bytes.now c.in-Ok.inst c.in-Ok.ensures.instance)) c.fitted.ensures.stop

pub returns-in-Err-clause-stop : goal.returns-in-Err-clause-stop
returns-in-Err-clause-stop c =
    let job = c.args.job.now in
    subst (StopsInstance (instance_in job c.args.bytes.now)) (sym c.stopped.ensures)
    (stops_text job c.args.bytes.now (fault_of c.in-Err.refused) c.text_refusal.result c.in-Err.ensures.refused c.text_refusal.ensures)
