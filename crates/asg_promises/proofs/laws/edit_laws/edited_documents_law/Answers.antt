use Rattle.asg_promises.proofs.Common.{Done, content_at}
use Rattle.asg_promises.proofs.EditLaws.{edited_only}
use Rattle.asg_promises.proofs.StageLaws.{job_due}
use Rattle.asg_promises.proofs.laws.edit_laws.edited_documents_law.Goals as goal

pub returns : goal.returns
returns c = λ words told text script job is whole edits due.
    let own = job_due words told Done text job is due in
    let found = edited_only job whole told own.0 text script edits own.1 own.2 in
    (content_at own.0 0, content_at own.0 1, found.0, found.1, found.2)
