use Rattle.asg_promises.proofs.Common.{subst}
use Rattle.asg_promises.proofs.EditLaws.{edit_followed, edit_refused, edit_statuses}
use Rattle.asg_promises.proofs.StageLaws.{AllShort, job_due}
use Rattle.asg_promises.proofs.laws.edit_laws.edit_law.Goals as goal

pub returns-clause-statuses : goal.returns-clause-statuses
returns-clause-statuses c = λ words told status text script job is edits due.
    let own = job_due words told status text job is due in
    edit_statuses job own.0 status text script edits own.2

pub returns-clause-refused : goal.returns-clause-refused
returns-clause-refused c = λ words told status text script bytes says numbers job X shorts is edits found heard holds refuses due.
    let own = job_due words told status text job is due in
    edit_refused job told own.0 status text script bytes says numbers X (subst (AllShort told) is shorts) edits found heard holds refuses own.1 own.2

pub returns-clause-followed : goal.returns-clause-followed
returns-clause-followed c = λ words told status text script bytes says job X lines shorts is edits found heard holds follows due.
    let own = job_due words told status text job is due in
    edit_followed job told own.0 status text script bytes says X lines (subst (AllShort told) is shorts) edits found heard holds follows own.1 own.2
