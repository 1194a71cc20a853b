use Rattle.asg_promises.proofs.Common.{No, content_at}
use Rattle.asg_promises.proofs.CheckLaws.{denied_only}
use Rattle.asg_promises.proofs.StageLaws.{job_due}
use Rattle.asg_promises.proofs.laws.check_laws.denied_law.Goals as goal

pub returns : goal.returns
returns c = λ words told text answer count job is checks due.
    let own = job_due words told No text job is due in
    let found = denied_only job told own.0 text answer count checks own.1 own.2 in
    (content_at own.0 0, content_at own.0 1, found.0, found.1, found.2)
