use Rattle.asg_promises.proofs.Common.{Done}
use Rattle.asg_promises.proofs.EditLaws.{certified_only}
use Rattle.asg_promises.proofs.StageLaws.{job_due}
use Rattle.asg_promises.proofs.laws.edit_laws.certified_documents_law.Goals as goal

pub returns : goal.returns
returns c = λ words told text script answer job is checks due.
    let own = job_due words told Done text job is due in
    certified_only job told own.0 text script answer checks own.1 own.2
