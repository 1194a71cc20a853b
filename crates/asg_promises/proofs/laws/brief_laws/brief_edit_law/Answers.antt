use Rattle.asg_promises.proofs.Common.{Done, content_at}
use Rattle.asg_promises.proofs.BriefLaws.{script_lines}
use Rattle.asg_promises.proofs.EditLaws.{followed_told}
use Rattle.asg_promises.proofs.StageLaws.{job_due}
use Rattle.asg_promises.proofs.laws.brief_laws.brief_edit_law.Goals as goal

pub returns : goal.returns
returns c = λ words told text script job is brief edits due.
    let own = job_due words told Done text job is due in
    let found = followed_told job told own.0 text script edits own.1 own.2 in
    (content_at own.0 0, content_at own.0 1, found.0, found.1, script_lines job (content_at own.0 0) (content_at own.0 1) text brief found.2)
